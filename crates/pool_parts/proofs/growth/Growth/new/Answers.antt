use Rattle.std.proofs.Common.{List, ap, ◌∙◌}
use Rattle.queue_tx.specs.declared.key.Key.{Key}
use Rattle.queue_tx.specs.Operations.{Operation}
use Rattle.pool_parts.specs.Growth.{is_touched, keys_count}
use Rattle.pool_parts.proofs.Growing.{grows}
use Rattle.pool_parts.proofs.growth.Growth.new.Goals as goal

pub returns : goal.returns
returns c = λ new done.
    let q = c.args.queue.now in
    grows (record { keys = c.in_ok-keys.keys; less = c.in_ok-less.less }) q new c.args.tx.now c.show_order.ensures done c.in_ok-keys.ensures.distinct (λ p.
    c.in_ok-keys.ensures.touched p ∙ ap (λ (os : List Operation). is_touched p os) c.ops.ensures)
    (c.in_ok-less.ensures ∙ ap (λ (ks : List Key). keys_count ks q) c.as_slice.ensures.value)
