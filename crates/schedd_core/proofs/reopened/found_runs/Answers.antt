use Rattle.std.proofs.Common.{List, sym, ◌∙◌}
use Rattle.std.proofs.lemmas.List.{at_drop_all}
use Rattle.claim_id.specs.declared.numbers.JobId.{JobId}
use Rattle.schedd_state.specs.Reopening.{found_behind}
use Rattle.schedd_core.proofs.FoundJobs.{job_gone_over}
use Rattle.schedd_core.proofs.reopened.found_runs.Goals as goal

pub loop-job-preserved : goal.loop-job-preserved
loop-job-preserved c = λ read reads.
    job_gone_over read c.args.queue.now c.args.left.now c.args.reading c.args.jobs.now c.loop-job.job-index _ c.found_run.result
    c.loop-job.runs.items c.push_some.new.runs.items c.loop-job-test.true (c.found_run.ensures read reads) c.in_ok-push_some.ensures
    ∙ c.loop-job.invariant read reads

pub returns : goal.returns
returns c = λ read reads.
    sym (at_drop_all (λ (js : List JobId). found_behind read c.args.queue.now c.args.left.now c.args.reading js c.loop-job.runs.items) c.args.jobs.now c.loop-job.job-index c.loop-job-test.false)
    ∙ c.loop-job.invariant read reads
