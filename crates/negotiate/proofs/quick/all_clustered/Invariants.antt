use Rattle.std.proofs.Common.{length}
use Rattle.negotiate.proofs.Numbering.{Numbering}
use Rattle.negotiate.proofs.quick.all_clustered.Given as goal

abbrev pub invariant-loop-request : goal.invariant-loop-request
invariant-loop-request l = Numbering l.fn.clusters.slots l.fn.requests.items l.requests.items l.left.items l.clusters

abbrev pub decreases-loop-request : goal.decreases-loop-request
decreases-loop-request l = length l.requests.items
