-- What was shown, with what the machines that are left show, is all.
use Rattle.std.proofs.Common.{◌≡◌, drop}
use Rattle.pool_shown.specs.Slots.{all_slots}
use Rattle.pool_shown.specs.ShownSlots.{shown_slots, with_slots}
use Rattle.pool_shown.proofs.slots.shown_slots.Given as goal

abbrev pub invariant-loop-startd : goal.invariant-loop-startd
invariant-loop-startd l = with_slots l.daemons l.shown (all_slots (drop l.startd-index l.startds))
    ≡ shown_slots l.daemons (all_slots l.startds)
