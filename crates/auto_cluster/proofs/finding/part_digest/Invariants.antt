-- What the attributes so far add up to.
use Rattle.std.proofs.Common.{◌≡◌, take}
use Rattle.auto_cluster.specs.Finding.{part_digest}
use Rattle.auto_cluster.proofs.finding.part_digest.Given as goal

abbrev pub invariant-loop-place : goal.invariant-loop-place
invariant-loop-place l = l.digest ≡ part_digest (take l.place l.part)
