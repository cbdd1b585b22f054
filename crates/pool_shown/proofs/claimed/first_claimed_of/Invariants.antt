-- No slot so far has a claim.
use Rattle.std.proofs.Common.{◌≡◌, drop}
use Rattle.pool_shown.specs.Slots.{first_claimed_of}
use Rattle.pool_shown.proofs.claimed.first_claimed_of.Given as goal

abbrev pub invariant-loop-slot : goal.invariant-loop-slot
invariant-loop-slot l = first_claimed_of (drop l.slot-index l.slots) ≡ first_claimed_of l.slots
