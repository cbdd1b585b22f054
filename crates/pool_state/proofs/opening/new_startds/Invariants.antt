-- The startds so far, with those of the slots that are left, are all.
use Rattle.std.proofs.Common.{◌≡◌, ◌++◌, drop}
use Rattle.pool_state.specs.Openings.{startds_from, startds_of}
use Rattle.pool_state.proofs.opening.new_startds.Given as goal

abbrev pub invariant-loop-slot : goal.invariant-loop-slot
invariant-loop-slot l = (l.startds.items ++ startds_from l.machinery l.last (drop l.slot-index l.slots) ≡ startds_of l.machinery l.slots)
    × (l.last.machine.number ≡ l.machine)
