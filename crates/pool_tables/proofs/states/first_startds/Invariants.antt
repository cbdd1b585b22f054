use Rattle.std.proofs.Common.{◌≡◌}
use Rattle.pool_tables.specs.DaemonTables.{first_startds}
use Rattle.pool_tables.proofs.states.first_startds.Given as goal

abbrev pub invariant-loop-machine : goal.invariant-loop-machine
invariant-loop-machine l = l.startds.items ≡ first_startds l.machine l.boot l.crashes
