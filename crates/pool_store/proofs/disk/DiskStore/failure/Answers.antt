use Rattle.std.proofs.Common.{rules}
use Rattle.pool_store.proofs.disk.DiskStore.failure.Goals as goal

pub returns-clause-rose : goal.returns-clause-rose
returns-clause-rose c = search rules
