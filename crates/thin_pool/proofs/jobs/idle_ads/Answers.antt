use Rattle.std.proofs.Common.{◌∙◌, ap, ◌++◌, ◌∷◌, []}
use Rattle.thin_pool.specs.Reactions.{idle_ads}
use Rattle.thin_pool.proofs.Idle.{passed_ad, copied_ad}
use Rattle.thin_pool.proofs.jobs.idle_ads.Goals as goal

pub loop-job-preserved : goal.loop-job-preserved
loop-job-preserved c =
    passed_ad c.loop-job.ads (idle_ads c.args.jobs.now.entries) c.loop-job.job-iterator (c.in-Some.field-0-0.now, c.in-Some.job.now) c.next.new.self c.in-Some.ensures.steps c.if-is_idle.ensures c.loop-job.invariant

pub loop-job-preserved-in_ok-push : goal.loop-job-preserved-in_ok-push
loop-job-preserved-in_ok-push c =
    let put = c.in_ok-push.ensures.ok ∙ ap (λ ad. c.loop-job.ads ++ ad ∷ []) c.in_ok-copy.ensures in
    copied_ad c.loop-job.ads c.push.new.self (idle_ads c.args.jobs.now.entries) c.loop-job.job-iterator (c.in-Some.field-0-0.now, c.in-Some.job.now) c.next.new.self c.in-Some.ensures.steps c.if-is_idle.ensures put c.loop-job.invariant
