-- A look before which no job with a periodic expression was looked at.
use Rattle.schedd_state.proofs.Oldest.{later_looks, IsNotLater}
use Rattle.schedd_state.proofs.due_checks.oldest_periodic.Given as goal

abbrev pub invariant-plain : goal.invariant-plain
invariant-plain l = IsNotLater l.looks l.queue l.look

abbrev pub decreases-plain : goal.decreases-plain
decreases-plain l = later_looks l.look l.looks
