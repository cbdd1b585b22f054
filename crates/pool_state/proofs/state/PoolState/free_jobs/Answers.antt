use Rattle.std.proofs.Common.{◌++◌, ◌∷◌, [], arith, ap, filter, not, ◌∙◌}
use Rattle.std.proofs.lemmas.List.{take_all}
use Rattle.claim_id.specs.declared.numbers.JobId.{JobId}
use Rattle.pool_state.specs.PoolJobs.{is_engaged}
use Rattle.pool_state.proofs.Kept.{kept_more, turned}
use Rattle.pool_state.proofs.state.PoolState.free_jobs.Goals as goal

pub loop-job-preserved : goal.loop-job-preserved
loop-job-preserved c =
    let s = c.args.self.now in
    kept_more (λ (job : JobId). not (is_engaged job s)) c.args.jobs.now c.loop-job.job-index _ [] c.loop-job.free.items c.push_free.new.free.items c.loop-job-test.true
    (c.in_ok-push_free.ensures ∙ turned (is_engaged _ s) (c.loop-job.free.items ++ _ ∷ []) c.loop-job.free.items) c.loop-job.invariant

pub returns : goal.returns
returns c =
    c.loop-job.invariant ∙ ap (filter (λ (job : JobId). not (is_engaged job c.args.self.now))) (take_all c.loop-job.job-index c.args.jobs.now (omega arith))
