use Rattle.pool_rules.proofs.PoolDaemons.{closes_keep, crashes_keep}
use Rattle.pool_rules.proofs.pools.crashes_and_closes_keep_pools.Goals as goal

pub returns-clause-crashes : goal.returns-clause-crashes
returns-clause-crashes c = crashes_keep

pub returns-clause-closes : goal.returns-clause-closes
returns-clause-closes c = closes_keep
