use Rattle.std.proofs.Common.{◌≡◌, map, take}
use Rattle.pool_input.specs.Input.{pool_slot}
use Rattle.pool_input.proofs.input.pool_slots.Given as goal

abbrev pub invariant-loop-slot : goal.invariant-loop-slot
invariant-loop-slot l = l.slots ≡ map pool_slot (take l.slot-index l.each)
