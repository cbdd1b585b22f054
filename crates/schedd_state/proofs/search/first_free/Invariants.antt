-- A job that makes the request, before which none is free.
use Rattle.queue_tx.proofs.Asking.{above_count}
use Rattle.schedd_state.proofs.Free.{IsReached}
use Rattle.schedd_state.proofs.search.first_free.Given as goal

abbrev pub invariant-asking : goal.invariant-asking
invariant-asking l = IsReached l.claims l.ad l.queue l.key

abbrev pub decreases-asking : goal.decreases-asking
decreases-asking l = above_count l.key l.queue
