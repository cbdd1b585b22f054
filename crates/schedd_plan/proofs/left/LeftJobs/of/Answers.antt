use Rattle.std.proofs.Common.{rules, ◌<◌, length, ap}
use Rattle.schedd_plan.proofs.LeftLists.{put_next}
use Rattle.schedd_plan.proofs.left.LeftJobs.of.Goals as goal

pub loop-job-preserved : goal.loop-job-preserved
loop-job-preserved c =
    let there : c.loop-job.job-index < length c.args.jobs.now = search rules in
    put_next c.args.jobs.now c.loop-job.job-index _ c.loop-job.left c.put.new.self c.in_ok-new.field-0 c.requires there
    (ap (λ e. e.0) c.in_ok-new.ensures) c.loop-job.invariant c.put.ensures.entries
