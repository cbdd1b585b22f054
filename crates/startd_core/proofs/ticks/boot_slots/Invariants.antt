-- What comes of the slots that are left is what comes of all.
use Rattle.std.proofs.Common.{◌≡◌, drop}
use Rattle.startd_core.specs.Startds.{after_boots, no_ticks}
use Rattle.startd_core.proofs.ticks.boot_slots.Given as goal

abbrev pub invariant-loop-slot : goal.invariant-loop-slot
invariant-loop-slot l =
    after_boots (drop l.slot-index l.slots) l.reading l.ticks
    ≡ after_boots l.slots l.reading (no_ticks l.offers)
