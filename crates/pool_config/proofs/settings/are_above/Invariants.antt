-- What is left, with all slots, is the limit with those of the machines that are left.
use Rattle.std.proofs.Common.{◌≡◌, ◌+◌, drop, map}
use Rattle.pool_config.specs.declared.config.TheConstants.{MAX_SLOTS}
use Rattle.pool_config.specs.Configuration.{machine_of, total_slots}
use Rattle.pool_config.proofs.settings.are_above.Given as goal

abbrev pub invariant-loop-machine : goal.invariant-loop-machine
invariant-loop-machine l =
    l.left + total_slots (map machine_of l.machines) ≡ MAX_SLOTS + total_slots (map machine_of (drop l.machine-index l.machines))
