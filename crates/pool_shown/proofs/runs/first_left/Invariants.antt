-- The run of no slot so far is left.
use Rattle.std.proofs.Common.{◌≡◌, drop}
use Rattle.pool_shown.specs.Slots.{first_left_of}
use Rattle.pool_shown.proofs.runs.first_left.Given as goal

abbrev pub invariant-loop-slot : goal.invariant-loop-slot
invariant-loop-slot l = first_left_of l.ended (drop l.slot-index l.slots) ≡ first_left_of l.ended l.slots
