use Rattle.pool_store.proofs.BootLines.{next_read}
use Rattle.pool_store.proofs.laws.next_line_is_read.Goals as goal

pub returns : goal.returns
returns c = next_read
