use Rattle.std.proofs.Common.{rules}
use Rattle.pool_tables.proofs.states.boot_refusal.Goals as goal

pub returns-then-asked-current : goal.returns-then-asked-current
returns-then-asked-current c = search rules
