-- All attributes can be printed where those that are left can.
use Rattle.std.proofs.Common.{drop}
use Rattle.queue_tx.specs.Printable.{IsPrintableAd}
use Rattle.pool_cases.proofs.loggable_jobs.is_printable.Given as goal

abbrev pub invariant-loop-place : goal.invariant-loop-place
invariant-loop-place l = IsPrintableAd l.sample → IsPrintableAd (drop l.place l.job) → IsPrintableAd l.job
