-- What comes of the slots that are left is what comes of all.
use Rattle.std.proofs.Common.{◌≡◌, drop}
use Rattle.startd_core.specs.Startds.{after_slots, no_ticks}
use Rattle.startd_core.proofs.ticks.tick_slots.Given as goal

abbrev pub invariant-loop-slot : goal.invariant-loop-slot
invariant-loop-slot l =
    after_slots l.machine l.settings (drop l.slot-index l.slots) l.reading l.ticks
    ≡ after_slots l.machine l.settings l.slots l.reading (no_ticks l.offers)
