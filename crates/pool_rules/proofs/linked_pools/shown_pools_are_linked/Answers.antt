use Rattle.pool_rules.proofs.Reviewing.{view_linked}
use Rattle.pool_rules.proofs.linked_pools.shown_pools_are_linked.Goals as goal

pub returns : goal.returns
returns c = view_linked
