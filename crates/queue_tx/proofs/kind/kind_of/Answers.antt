use Rattle.std.proofs.Common.{rules}
use Rattle.queue_tx.proofs.kind.kind_of.Goals as goal

pub returns : goal.returns
returns c = search rules
