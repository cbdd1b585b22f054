-- The copy so far is a prefix of the slots.
use Rattle.std.proofs.Common.{◌≡◌, take}
use Rattle.startd_core.proofs.startd.copy_slots.Given as goal

abbrev pub invariant-loop-slot : goal.invariant-loop-slot
invariant-loop-slot l = l.copied.items ≡ take l.slot-index l.slots
