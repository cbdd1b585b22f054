use Rattle.std.proofs.Common.{ap, ◌∙◌}
use Rattle.pool_config.specs.Slots.{slot_name}
use Rattle.pool_config.proofs.slots.configured_slot.Goals as goal

pub slot_ad-requires-clause-named : goal.slot_ad-requires-clause-named
slot_ad-requires-clause-named c =
    c.as_str-2.ensures ∙ c.in_ok-name.ensures ∙ ap (λ m. slot_name m c.args.slot.slot) c.as_str.ensures

pub slot_ad-requires-clause-room : goal.slot_ad-requires-clause-room
slot_ad-requires-clause-room c = c.requires

pub returns : goal.returns
returns c =
    let name = c.in_ok-name.ensures ∙ ap (λ m. slot_name m c.args.slot.slot) c.as_str.ensures in
    λ i. record { slot = c.args.slot; name = name i; ad = c.in_ok-ad.ensures i }
