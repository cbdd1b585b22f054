use Rattle.pool_rules.proofs.PoolDaemons.{receipts_keep, returns_keep, ticks_keep}
use Rattle.pool_rules.proofs.pools.matchmakers_keep_pools.Goals as goal

pub returns-clause-mails : goal.returns-clause-mails
returns-clause-mails c = receipts_keep

pub returns-clause-ticks : goal.returns-clause-ticks
returns-clause-ticks c = ticks_keep

pub returns-clause-boots : goal.returns-clause-boots
returns-clause-boots c = returns_keep
