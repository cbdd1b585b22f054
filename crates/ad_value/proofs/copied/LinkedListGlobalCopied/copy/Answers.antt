use Rattle.ad_value.proofs.CopyLemmas.{copied_all, copied_more}
use Rattle.ad_value.proofs.copied.LinkedListGlobalCopied.copy.Goals as goal

pub loop-item-preserved : goal.loop-item-preserved
loop-item-preserved g c = copied_more _ c.loop-item.yielded c.loop-item.list c.push_back.new.self c.in-Some.item _ c.loop-item.invariant c.in_ok-copy.ensures c.in_ok-push_back.ensures.items

pub returns : goal.returns
returns g c =
    copied_all c.args.self.now c.loop-item.list c.into_iter-item-iterator.result c.loop-item.item-iterator c.next.new.self c.loop-item.yielded c.next.result c.into_iter-item-iterator.ensures.into_iter_gives.0 c.loop-item.invariant c.loop-item.yielded_by c.in-None.is c.next.ensures.steps
