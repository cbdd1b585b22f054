use Rattle.std.proofs.Common.{◌++◌, List, arith, ap, filter, ◌∙◌}
use Rattle.std.proofs.lemmas.List.{take_all}
use Rattle.claim_id.specs.declared.numbers.JobId.{JobId}
use Rattle.pool_state.specs.Openings.{is_removed_at}
use Rattle.pool_state.proofs.Kept.{kept_more}
use Rattle.pool_state.proofs.opening.push_removed.Goals as goal

pub loop-job-preserved : goal.loop-job-preserved
loop-job-preserved c =
    kept_more (is_removed_at c.args.queue.now) c.args.jobs.now c.loop-job.job-index _ c.args.removed.now c.loop-job.removed c.push_where_removed.new.removed c.loop-job-test.true c.in_ok-push_where_removed.ensures c.loop-job.invariant

pub returns : goal.returns
returns c =
    c.loop-job.invariant ∙ ap (λ (l : List JobId). c.args.removed.now ++ filter (is_removed_at c.args.queue.now) l) (take_all c.loop-job.job-index c.args.jobs.now (omega arith))
