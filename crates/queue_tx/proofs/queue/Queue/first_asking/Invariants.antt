-- An idle job past the bound with the request's digest, before which none asks for the same.
use Rattle.queue_tx.proofs.Asking.{above_count, IsReached}
use Rattle.queue_tx.proofs.queue.Queue.first_asking.Given as goal

abbrev pub invariant-idle : goal.invariant-idle
invariant-idle l = IsReached l.ad l.self l.digest l.fn.start l.key

abbrev pub decreases-idle : goal.decreases-idle
decreases-idle l = above_count l.key l.self
