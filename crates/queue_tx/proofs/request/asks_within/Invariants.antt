-- The attributes so far agree.
use Rattle.std.proofs.Common.{◌<◌, ℕ, slice_get}
use Rattle.queue_tx.specs.Requests.{AgreesAt}
use Rattle.queue_tx.proofs.request.asks_within.Given as goal

abbrev pub invariant-places : goal.invariant-places
invariant-places l = (k : ℕ) → k < l.place → AgreesAt l.other (slice_get l.one k)
