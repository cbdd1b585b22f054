-- The ads are the idle jobs' where those that are left are those of the idle jobs that are left.
use Rattle.std.proofs.Common.{◌≡◌, ◌↔◌}
use Rattle.thin_pool.specs.Reactions.{idle_ads}
use Rattle.thin_pool.proofs.jobs.are_idle_ads.Given as goal

abbrev pub invariant-loop-job : goal.invariant-loop-job
invariant-loop-job l = (l.ads ≡ idle_ads l.jobs.entries) ↔ (l.left ≡ idle_ads l.job-iterator)
