-- The slots so far, and those that are left, are all.
use Rattle.std.proofs.Common.{◌≡◌, ◌++◌, drop, map}
use Rattle.pool_shown.specs.Slots.{all_slots, told_at}
use Rattle.pool_shown.proofs.told.told_slots.Given as goal

abbrev pub invariant-loop-startd : goal.invariant-loop-startd
invariant-loop-startd l = l.told ++ map (told_at l.at) (all_slots (drop l.startd-index l.startds))
    ≡ map (told_at l.at) (all_slots l.startds)
