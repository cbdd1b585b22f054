use Rattle.std.proofs.Common.{rules}
use Rattle.queue_tx.proofs.room.own_at.Goals as goal

pub returns-in-Some : goal.returns-in-Some
returns-in-Some c = search rules
