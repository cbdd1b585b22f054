-- The jobs so far, with those yet to come, are all.
use Rattle.std.proofs.Common.{◌≡◌, ◌++◌, drop}
use Rattle.std.specs.Map.{keys_of}
use Rattle.schedd_plan.proofs.left.LeftJobs.of.Given as goal

abbrev pub invariant-loop-job : goal.invariant-loop-job
invariant-loop-job l = keys_of l.left ++ drop l.job-index l.jobs ≡ l.jobs
