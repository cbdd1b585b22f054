-- The slots so far, and those that are left, are all.
use Rattle.std.proofs.Common.{◌≡◌, ◌++◌, drop, map}
use Rattle.pool_shown.specs.Slots.{told_at}
use Rattle.pool_shown.proofs.told.push_slots.Given as goal

abbrev pub invariant-loop-slot : goal.invariant-loop-slot
invariant-loop-slot l = l.told ++ map (told_at l.at) (drop l.slot-index l.slots)
    ≡ l.initial.told ++ map (told_at l.at) l.slots
