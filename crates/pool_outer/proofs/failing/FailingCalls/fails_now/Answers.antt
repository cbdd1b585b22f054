use Rattle.std.proofs.Common.{rules}
use Rattle.pool_outer.proofs.failing.FailingCalls.fails_now.Goals as goal

pub returns-clause-next : goal.returns-clause-next
returns-clause-next c = search rules
