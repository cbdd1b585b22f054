use Rattle.matchmaker.proofs.kept.KeptAd.is_of.Goals as goal

pub returns : goal.returns
returns c = c.is_slot.ensures
