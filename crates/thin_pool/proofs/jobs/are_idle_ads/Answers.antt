use Rattle.std.proofs.Common.{ap}
use Rattle.thin_pool.specs.Reactions.{idle_ads}
use Rattle.thin_pool.proofs.Idle.{nothing_left_over, another_idle_ad, same_idle_ad, no_idle_ad}
use Rattle.thin_pool.proofs.jobs.are_idle_ads.Goals as goal

pub returns : goal.returns
returns c = nothing_left_over c.is_empty.result c.loop-job.left.now (idle_ads c.loop-job.job-iterator) c.loop-job.invariant (ap idle_ads c.in-None.ensures.steps.0) c.is_empty.ensures

pub returns-in-None-after_first : goal.returns-in-None-after_first
returns-in-None-after_first c =
    another_idle_ad c.loop-job.left.now c.loop-job.job-iterator (c.in-Some.field-0-0.now, c.in-Some.job.now) c.next.new.self c.loop-job.invariant c.in-Some.ensures.steps c.if-not-is_idle.ensures c.in-None-after_first.ensures

pub loop-job-preserved : goal.loop-job-preserved
loop-job-preserved c =
    same_idle_ad c.loop-job.left.now c.in-Some-after_first.rest.now c.loop-job.job-iterator (c.in-Some.field-0-0.now, c.in-Some.job.now) c.next.new.self c.loop-job.invariant c.in-Some.ensures.steps c.if-not-is_idle.ensures c.in-Some-after_first.ensures

pub loop-job-preserved-then-not-is_idle : goal.loop-job-preserved-then-not-is_idle
loop-job-preserved-then-not-is_idle c =
    no_idle_ad c.loop-job.left.now c.loop-job.job-iterator (c.in-Some.field-0-0.now, c.in-Some.job.now) c.next.new.self c.loop-job.invariant c.in-Some.ensures.steps c.if-not-is_idle.ensures
