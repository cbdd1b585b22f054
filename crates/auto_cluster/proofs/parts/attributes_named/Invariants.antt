use Rattle.std.proofs.Common.{◌≡◌, ◌++◌, take, drop}
use Rattle.std.specs.List.{filter}
use Rattle.auto_cluster.specs.Links.{is_among}
use Rattle.auto_cluster.proofs.parts.attributes_named.Given as goal

abbrev pub invariant-loop-place : goal.invariant-loop-place
invariant-loop-place l = l.part ≡ filter (λ a. is_among l.names a.0) (take l.place l.job) ++ drop l.place l.job
