-- What was copied and what is left are the whole table.
use Rattle.std.proofs.Common.{◌≡◌, ◌++◌}
use Rattle.thin_pool.proofs.runs.copy_runs.Given as goal

abbrev pub invariant-loop-slot : goal.invariant-loop-slot
invariant-loop-slot l = l.table.entries ++ l.slot-iterator ≡ l.runs.entries
