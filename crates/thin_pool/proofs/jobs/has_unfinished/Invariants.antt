-- All jobs so far are finished.
use Rattle.std.proofs.Common.{◌≡◌}
use Rattle.thin_pool.specs.Jobs.{has_unfinished}
use Rattle.thin_pool.proofs.jobs.has_unfinished.Given as goal

abbrev pub invariant-loop-job : goal.invariant-loop-job
invariant-loop-job l = has_unfinished l.job-iterator ≡ has_unfinished l.jobs.entries
