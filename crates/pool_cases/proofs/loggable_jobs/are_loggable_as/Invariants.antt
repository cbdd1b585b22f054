-- All can be logged where those that are left can.
use Rattle.std.proofs.Common.{drop}
use Rattle.pool_parts.specs.Loggable.{AreLoggableJobs}
use Rattle.queue_tx.specs.Printable.{IsPrintableAd}
use Rattle.pool_cases.proofs.loggable_jobs.are_loggable_as.Given as goal

abbrev pub invariant-loop-job : goal.invariant-loop-job
invariant-loop-job l = IsPrintableAd l.sample → AreLoggableJobs (drop l.job-index l.jobs) → AreLoggableJobs l.jobs
