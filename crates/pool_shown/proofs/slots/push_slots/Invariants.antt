-- What was shown, with what the slots that are left show, is all.
use Rattle.std.proofs.Common.{◌≡◌, drop}
use Rattle.pool_shown.specs.ShownSlots.{with_slots}
use Rattle.pool_shown.proofs.slots.push_slots.Given as goal

abbrev pub invariant-loop-slot : goal.invariant-loop-slot
invariant-loop-slot l = with_slots l.daemons l.shown (drop l.slot-index l.slots)
    ≡ with_slots l.daemons l.initial.shown l.slots
