use Rattle.std.proofs.Common.{rules}
use Rattle.pool_store.proofs.boots.Boots.next.Goals as goal

pub returns-in-Some : goal.returns-in-Some
returns-in-Some c = search rules
