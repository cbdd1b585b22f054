use Rattle.pool_config.proofs.SlotLemmas.{counted}
use Rattle.pool_config.proofs.laws.slots_are_counted.Goals as goal

pub returns : goal.returns
returns c = counted
