use Rattle.pool_store.proofs.BootLines.{torn_says}
use Rattle.pool_store.proofs.laws.torn_line_says_nothing.Goals as goal

pub returns : goal.returns
returns c = torn_says
