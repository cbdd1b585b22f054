use Rattle.pool_store.proofs.Pasts.{ended}
use Rattle.pool_store.proofs.memory.sure.SureStoreStore.sync.Goals as goal

pub returns-clause-time : goal.returns-clause-time
returns-clause-time c told = ended c.args.self.now.past.items c.keep.new.self.past.items c.args.self.now.files c.sync_in.new.files.items c.in_ok-keep.ensures.past
