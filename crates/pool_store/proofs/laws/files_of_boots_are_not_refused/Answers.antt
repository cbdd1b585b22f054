use Rattle.pool_store.proofs.BootLines.{not_refused}
use Rattle.pool_store.proofs.laws.files_of_boots_are_not_refused.Goals as goal

pub returns : goal.returns
returns c = not_refused
