use Rattle.std.proofs.Common.{rules}
use Rattle.pool_tables.proofs.orders.is_unreceived.Goals as goal

pub returns-in-Some : goal.returns-in-Some
returns-in-Some c = search rules
