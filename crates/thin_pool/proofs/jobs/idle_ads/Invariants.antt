-- What was copied and the ads of the idle jobs that are left are those of all.
use Rattle.std.proofs.Common.{◌≡◌, ◌++◌}
use Rattle.thin_pool.specs.Reactions.{idle_ads}
use Rattle.thin_pool.proofs.jobs.idle_ads.Given as goal

abbrev pub invariant-loop-job : goal.invariant-loop-job
invariant-loop-job l = l.ads ++ idle_ads l.job-iterator ≡ idle_ads l.jobs.entries
