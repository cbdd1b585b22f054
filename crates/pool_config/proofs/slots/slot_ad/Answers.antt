use Rattle.std.proofs.Common.{◌∙◌, ap}
use Rattle.pool_config.specs.Slots.{with_attributes}
use Rattle.pool_config.proofs.slots.slot_ad.Goals as goal

pub returns : goal.returns
returns c = c.in_ok-add_attributes.ensures ∙ ap (with_attributes c.args.machine.now.attrs) c.in_ok-ad.ensures
