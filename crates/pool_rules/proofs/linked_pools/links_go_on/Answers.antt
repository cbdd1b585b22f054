use Rattle.pool_rules.proofs.Viewing.{lead_on, same_linked}
use Rattle.pool_rules.proofs.linked_pools.links_go_on.Goals as goal

pub returns-clause-events : goal.returns-clause-events
returns-clause-events c = lead_on

pub returns-clause-same : goal.returns-clause-same
returns-clause-same c = same_linked
