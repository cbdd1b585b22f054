use Rattle.std.proofs.Common.{rules}
use Rattle.pool_outer.proofs.clock.memory.MemClock.nth.Goals as goal

pub returns-clause-value : goal.returns-clause-value
returns-clause-value c = search rules
