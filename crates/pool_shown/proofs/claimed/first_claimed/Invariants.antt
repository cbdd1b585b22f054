-- No slot so far has a claim.
use Rattle.std.proofs.Common.{◌≡◌, drop}
use Rattle.pool_shown.specs.Slots.{first_claimed}
use Rattle.pool_shown.proofs.claimed.first_claimed.Given as goal

abbrev pub invariant-loop-startd : goal.invariant-loop-startd
invariant-loop-startd l = first_claimed (drop l.startd-index l.startds) ≡ first_claimed l.startds
