use Rattle.std.proofs.Common.{take}
use Rattle.auto_cluster.specs.Clustering.{AreLinksOf}
use Rattle.auto_cluster.proofs.references.links_of.Given as goal

abbrev pub invariant-loop-ad : goal.invariant-loop-ad
invariant-loop-ad l = AreLinksOf (take l.ad-index l.ad-items) l.list.items
