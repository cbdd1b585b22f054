-- The machine's slots so far.
use Rattle.std.proofs.Common.{◌≡◌, ◌++◌}
use Rattle.pool_config.specs.Configuration.{machine_of}
use Rattle.pool_config.specs.Slots.{slots_upto}
use Rattle.pool_config.proofs.slots.add_slots.Given as goal

abbrev pub invariant-loop-before : goal.invariant-loop-before
invariant-loop-before l = l.slots ≡ l.initial.slots ++ slots_upto l.fn.place (machine_of l.machine) l.before
