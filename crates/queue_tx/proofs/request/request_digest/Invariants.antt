-- What the attributes so far add up to.
use Rattle.std.proofs.Common.{◌≡◌, take}
use Rattle.queue_tx.specs.RequestDigests.{request_digest}
use Rattle.queue_tx.proofs.request.request_digest.Given as goal

abbrev pub invariant-loop-place : goal.invariant-loop-place
invariant-loop-place l = l.digest ≡ request_digest (take l.place l.ad)
