-- The copy so far is a prefix of the list.
use Rattle.std.proofs.Common.{◌≡◌, take}
use Rattle.pool_view.proofs.view.copy_jobs.Given as goal

abbrev pub invariant-loop-job : goal.invariant-loop-job
invariant-loop-job l = l.list ≡ take l.job-index l.job-items
