use Rattle.pool_store.proofs.BootLines.{one_thing}
use Rattle.pool_store.proofs.laws.file_says_one_thing.Goals as goal

pub returns : goal.returns
returns c = one_thing
