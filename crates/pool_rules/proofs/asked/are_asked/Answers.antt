use Rattle.pool_rules.proofs.AskedAds.{all_asked, not_next, one_more_asked}
use Rattle.pool_rules.proofs.asked.are_asked.Goals as goal

pub returns-in-None : goal.returns-in-None
returns-in-None c = not_next c.args.queue.now c.args.jobs.now c.loop-job.job-index _ c.loop-job.left.now c.loop-job.invariant c.loop-job-test.true c.in-None.ensures

pub loop-job-preserved : goal.loop-job-preserved
loop-job-preserved c =
    one_more_asked c.args.queue.now c.args.jobs.now c.loop-job.job-index _ c.loop-job.left.now c.in-Some.rest.now c.loop-job.invariant c.loop-job-test.true c.in-Some.ensures

pub returns : goal.returns
returns c = all_asked c.args.queue.now c.args.jobs.now c.loop-job.job-index c.loop-job.left.now c.loop-job.invariant c.loop-job-test.false c.is_empty.ensures
