-- No slot so far has the run.
use Rattle.std.proofs.Common.{◌≡◌, drop}
use Rattle.pool_rules.specs.Startds.{job_of_run}
use Rattle.pool_steps.proofs.startds.job_of_run.Given as goal

abbrev pub invariant-loop-slot : goal.invariant-loop-slot
invariant-loop-slot l = job_of_run l.run (drop l.slot-index l.slots) ≡ job_of_run l.run l.slots
