use Rattle.pool_config.proofs.name.is_slot_attribute.Goals as goal

pub returns : goal.returns
returns c = c.is_among.ensures
