-- None of the slots so far is it.
use Rattle.std.proofs.Common.{◌≡◌, drop}
use Rattle.thin_pool.specs.PoolValue.{slot_at}
use Rattle.thin_pool.proofs.slot.slot_at.Given as goal

abbrev pub invariant-loop-slot : goal.invariant-loop-slot
invariant-loop-slot l = slot_at l.id (drop l.slot-index l.slots) ≡ slot_at l.id l.slots
