use Rattle.pool_state.proofs.Jobs.{pushed_more}
use Rattle.pool_state.proofs.opening.push_jobs.Goals as goal

pub loop-job-preserved : goal.loop-job-preserved
loop-job-preserved c =
    pushed_more c.args.jobs.now c.loop-job.job-index _ c.loop-job.listed c.push_back.new.self _ c.loop-job-test.true c.in_ok-push_back.ensures.items c.loop-job.invariant
