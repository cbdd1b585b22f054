-- What was copied and what is left are the whole table.
use Rattle.std.proofs.Common.{◌≡◌, ◌++◌}
use Rattle.thin_pool.proofs.jobs.copy_jobs.Given as goal

abbrev pub invariant-loop-id : goal.invariant-loop-id
invariant-loop-id l = l.table.entries ++ l.id-iterator ≡ l.jobs.entries
