use Rattle.pool_parts.proofs.Counted.{counted}
use Rattle.pool_parts.proofs.QueueWalk.{count_begin, count_on, fewer_on, last_key}
use Rattle.pool_parts.proofs.queue.queue_size.Goals as goal

pub ads-init : goal.ads-init
ads-init c = count_begin c.args.queue.now

pub ads-smaller : goal.ads-smaller
ads-smaller c = fewer_on _ c.args.queue.now c.in-Some.key.now c.add_under-size.ensures.ordered c.in-Some.ensures

pub ads-preserved : goal.ads-preserved
ads-preserved c = count_on _ c.args.queue.now c.in-Some.key.now _ _ _ c.add_under-size.ensures.ordered c.in-Some.ensures c.add_under-size.ensures.size c.ads.invariant

pub returns : goal.returns
returns c = counted _ _ _ (last_key _ c.args.queue.now c.in_default.ensures) c.ads.invariant
