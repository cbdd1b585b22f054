use Rattle.std.proofs.Common.{rules}
use Rattle.pool_outer.proofs.spawner.memory.MemChild.look.Goals as goal

pub returns-clause-look : goal.returns-clause-look
returns-clause-look c = search rules
