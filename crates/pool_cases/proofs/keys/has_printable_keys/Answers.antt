use Rattle.std.proofs.Common.{refl}
use Rattle.pool_cases.proofs.QueueKeys.{fewer_keys, keys_begin, keys_end, keys_next}
use Rattle.pool_cases.proofs.keys.has_printable_keys.Goals as goal

pub keys-init : goal.keys-init
keys-init c = keys_begin c.args.queue.now

pub keys-smaller : goal.keys-smaller
keys-smaller c = fewer_keys _ c.args.queue.now c.in-Some.key.now c.is_printable.ensures.order c.in-Some.ensures

pub keys-preserved : goal.keys-preserved
keys-preserved c =
    keys_next _ c.args.queue.now c.in-Some.key.now c.is_printable.ensures.order c.in-Some.ensures
    (c.if-not-is_printable.ensures.key refl) c.keys.invariant

pub returns : goal.returns
returns c = λ is. keys_end _ c.args.queue.now c.in_default.ensures c.keys.invariant
