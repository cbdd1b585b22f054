use Rattle.pool_state.proofs.Outcomes.{copied_all, copied_more}
use Rattle.pool_state.proofs.view.copied_list.Goals as goal

pub loop-item-preserved : goal.loop-item-preserved
loop-item-preserved g c = copied_more _ c.loop-item.yielded c.loop-item.copied c.push.new.self c.in-Some.item c.loop-item.invariant c.in_ok-push.ensures.ok

pub returns : goal.returns
returns g c =
    copied_all c.args.list.now c.loop-item.copied c.into_iter-item-iterator.result c.loop-item.item-iterator c.next.new.self c.loop-item.yielded c.next.result c.into_iter-item-iterator.ensures.into_iter_gives.0 c.loop-item.invariant c.loop-item.yielded_by c.in-None.is c.next.ensures.steps
