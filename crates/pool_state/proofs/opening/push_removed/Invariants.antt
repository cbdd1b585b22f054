-- The jobs to be removed so far.
use Rattle.std.proofs.Common.{◌≡◌, ◌++◌, filter, take}
use Rattle.pool_state.specs.Openings.{is_removed_at}
use Rattle.pool_state.proofs.opening.push_removed.Given as goal

abbrev pub invariant-loop-job : goal.invariant-loop-job
invariant-loop-job l = l.removed ≡ l.initial.removed ++ filter (is_removed_at l.queue) (take l.job-index l.jobs)
