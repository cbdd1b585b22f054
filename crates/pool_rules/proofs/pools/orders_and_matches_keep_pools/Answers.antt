use Rattle.pool_rules.proofs.PoolSent.{matches_keep, orders_keep}
use Rattle.pool_rules.proofs.pools.orders_and_matches_keep_pools.Goals as goal

pub returns-clause-orders : goal.returns-clause-orders
returns-clause-orders c = orders_keep

pub returns-clause-matches : goal.returns-clause-matches
returns-clause-matches c = matches_keep
