-- The free ones so far.
use Rattle.std.proofs.Common.{◌≡◌, filter, not, take}
use Rattle.pool_state.specs.PoolJobs.{is_engaged}
use Rattle.pool_state.proofs.state.PoolState.free_jobs.Given as goal

abbrev pub invariant-loop-job : goal.invariant-loop-job
invariant-loop-job l = l.free.items ≡ filter (λ job. not (is_engaged job l.self)) (take l.job-index l.jobs)
