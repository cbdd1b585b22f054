use Rattle.std.proofs.Common.{◌≡◌, take}
use Rattle.ad_tree.specs.Ad.{names}
use Rattle.auto_cluster.proofs.clusters.names_of.Given as goal

abbrev pub invariant-loop-place : goal.invariant-loop-place
invariant-loop-place l = l.names.items ≡ names (take l.place l.ad)
