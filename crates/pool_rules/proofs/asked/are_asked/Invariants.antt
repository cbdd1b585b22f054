-- What follows is what the jobs that are left ask for where all is.
use Rattle.std.proofs.Common.{◌≡◌, ◌↔◌, drop}
use Rattle.pool_rules.specs.Judging.{asked_ads}
use Rattle.pool_rules.proofs.asked.are_asked.Given as goal

abbrev pub invariant-loop-job : goal.invariant-loop-job
invariant-loop-job l = (l.ads ≡ asked_ads l.queue l.jobs) ↔ (l.left ≡ asked_ads l.queue (drop l.job-index l.jobs))
