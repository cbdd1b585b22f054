use Rattle.pool_store.proofs.memory.sure.SureStore.keep.Goals as goal

pub returns-in-Ok-clause-past : goal.returns-in-Ok-clause-past
returns-in-Ok-clause-past c = (c.of-was.result, (c.of-was.ensures, c.in-Ok.ensures.items))
