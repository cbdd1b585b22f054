use Rattle.std.proofs.Common.{◌∙◌}
use Rattle.pool_shown.proofs.DoneJobs.{all_to_come, fewer_more, none_more, one_more}
use Rattle.pool_shown.proofs.finished.push_finished.Goals as goal

pub finished-init : goal.finished-init
finished-init c = all_to_come c.args.finished.now c.args.entries.now

pub finished-smaller : goal.finished-smaller
finished-smaller c =
    fewer_more _ c.args.finished.now (c.in-Some.key.now, c.in-Some.job.now) c.next_finished.ensures.ordered c.in-Some.ensures.next

pub finished-preserved : goal.finished-preserved
finished-preserved c =
    one_more _ c.args.finished.now (c.in-Some.key.now, c.in-Some.job.now) c.finished.entries c.push_done.new.entries c.next_finished.ensures.ordered
    c.in-Some.ensures.next c.in_ok-push_done.ensures
    ∙ c.finished.invariant

pub returns : goal.returns
returns c = none_more _ c.args.finished.now c.finished.entries _ c.in_default.ensures.next c.finished.invariant
