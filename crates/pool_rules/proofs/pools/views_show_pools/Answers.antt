use Rattle.pool_rules.proofs.PoolViews.{view_shows}
use Rattle.pool_rules.proofs.pools.views_show_pools.Goals as goal

pub returns : goal.returns
returns c = view_shows
