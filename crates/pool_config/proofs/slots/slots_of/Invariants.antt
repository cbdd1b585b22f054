-- The slots so far, with those of the machines that are left, are all.
use Rattle.std.proofs.Common.{◌≡◌, ◌++◌, drop, map}
use Rattle.pool_config.specs.Configuration.{machine_of}
use Rattle.pool_config.specs.Slots.{slots_from}
use Rattle.pool_config.proofs.slots.slots_of.Given as goal

abbrev pub invariant-loop-machine : goal.invariant-loop-machine
invariant-loop-machine l = record {
  slots : l.slots ++ slots_from l.machine-index (map machine_of (drop l.machine-index l.machines)) ≡ slots_from 0 (map machine_of l.machines);
  place : l.place ≡ l.machine-index;
}
