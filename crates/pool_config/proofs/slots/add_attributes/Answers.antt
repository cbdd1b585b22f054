use Rattle.std.proofs.Common.{◌<◌, ◌+◌, ap, ◌∙◌, drop, length, rules}
use Rattle.pool_config.specs.Slots.{with_attributes}
use Rattle.pool_config.proofs.SlotLemmas.{one_attribute}
use Rattle.pool_config.proofs.slots.add_attributes.Goals as goal

pub loop-place-preserved : goal.loop-place-preserved
loop-place-preserved c =
    let attrs = c.args.attrs.now in
    let place = c.loop-place.place in
    let inside : place < length attrs = search rules in
    ap (with_attributes (drop (place + 1) attrs)) c.in_ok-add_attribute.ensures
    ∙ one_attribute attrs place c.loop-place.ad inside ∙ c.loop-place.invariant
