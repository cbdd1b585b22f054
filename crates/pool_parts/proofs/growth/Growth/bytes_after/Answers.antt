use Rattle.std.proofs.Common.{List, ap, ◌∙◌}
use Rattle.queue_tx.specs.declared.key.Key.{Key}
use Rattle.pool_parts.specs.Growth.{keys_count}
use Rattle.pool_parts.proofs.Growing.{grown}
use Rattle.pool_parts.proofs.growth.Growth.bytes_after.Goals as goal

pub returns-in-Some : goal.returns-in-Some
returns-in-Some c = λ old grows.
    let q = c.args.queue.now in
    let more = c.in_ok-more.ensures ∙ ap (λ (ks : List Key). keys_count ks q) c.as_slice.ensures.value in
    grown c.args.self.now c.args.bytes c.in_ok-more.more c.in-Some.all c.saturating_sub.result old q c.show_order.ensures grows more c.in-Some.ensures.1 c.saturating_sub.ensures
