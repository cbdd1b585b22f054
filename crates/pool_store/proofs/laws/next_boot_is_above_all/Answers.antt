use Rattle.pool_store.proofs.BootLines.{next_is_above}
use Rattle.pool_store.proofs.laws.next_boot_is_above_all.Goals as goal

pub returns : goal.returns
returns c = next_is_above
