use Rattle.std.proofs.Common.{rules}
use Rattle.pool_tables.proofs.mails.again.Goals as goal

pub returns-else-may : goal.returns-else-may
returns-else-may c = search rules
