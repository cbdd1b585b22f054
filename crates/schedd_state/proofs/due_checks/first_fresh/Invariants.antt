-- A job with a periodic expression past the bound, before which all were looked at.
use Rattle.queue_tx.proofs.Asking.{above_count}
use Rattle.schedd_state.proofs.Fresh.{IsNotAfter}
use Rattle.schedd_state.proofs.due_checks.first_fresh.Given as goal

abbrev pub invariant-looked : goal.invariant-looked
invariant-looked l = IsNotAfter l.looks l.queue l.start l.key

abbrev pub decreases-looked : goal.decreases-looked
decreases-looked l = above_count l.key l.queue
