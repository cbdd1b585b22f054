-- The slots so far stand in order, and those that are left decide.
use Rattle.std.proofs.Common.{◌≡◌, drop}
use Rattle.pool_state.specs.Openings.{machines_after, machines_of}
use Rattle.pool_state.proofs.opening.count_machines.Given as goal

abbrev pub invariant-loop-slot : goal.invariant-loop-slot
invariant-loop-slot l = machines_after l.machines l.last (drop l.slot-index l.slots) ≡ machines_of l.slots
