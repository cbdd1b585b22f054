use Rattle.std.proofs.Common.{rules}
use Rattle.pool_store.proofs.memory.file.MemFile.cut.Goals as goal

pub returns-clause-solid : goal.returns-clause-solid
returns-clause-solid c = search rules
