use Rattle.pool_shown.specs.ShownJobs.{shown_entry}
use Rattle.pool_shown.proofs.Steps.{jobs_on}
use Rattle.pool_shown.proofs.jobs.push_jobs.Goals as goal

pub loop-job-preserved : goal.loop-job-preserved
loop-job-preserved c = λ read reads.
    jobs_on (shown_entry read c.args.queue.now c.args.left.now) c.args.jobs.now c.loop-job.job-index _ c.loop-job.entries c.push_job.new.entries _
    c.loop-job-test.true (c.loop-job.invariant read reads) (c.in_ok-push_job.ensures read reads)
