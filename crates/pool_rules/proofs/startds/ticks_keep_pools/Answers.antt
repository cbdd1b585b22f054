use Rattle.pool_rules.proofs.StartdGoing.{ticked_goes_on}
use Rattle.pool_rules.proofs.startds.ticks_keep_pools.Goals as goal

pub returns : goal.returns
returns c = ticked_goes_on
