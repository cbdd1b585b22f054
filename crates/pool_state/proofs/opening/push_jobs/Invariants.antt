-- The jobs so far, with those that are left, are all.
use Rattle.std.proofs.Common.{◌≡◌, ◌++◌, drop}
use Rattle.pool_state.proofs.opening.push_jobs.Given as goal

abbrev pub invariant-loop-job : goal.invariant-loop-job
invariant-loop-job l = l.listed ++ drop l.job-index l.jobs ≡ l.initial.listed ++ l.jobs
