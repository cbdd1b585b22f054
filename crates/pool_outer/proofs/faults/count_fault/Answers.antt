use Rattle.std.proofs.Common.{rules}
use Rattle.pool_outer.proofs.faults.count_fault.Goals as goal

pub returns-clause-counted : goal.returns-clause-counted
returns-clause-counted c = search rules
