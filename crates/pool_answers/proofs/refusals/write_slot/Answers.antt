use Rattle.pool_answers.proofs.refusals.write_slot.Goals as goal

pub returns : goal.returns
returns c = c.write.ensures.bytes
