use Rattle.pool_rules.proofs.PoolOpening.{opening_is_kept}
use Rattle.pool_rules.proofs.pools.openings_are_kept.Goals as goal

pub returns : goal.returns
returns c = opening_is_kept
