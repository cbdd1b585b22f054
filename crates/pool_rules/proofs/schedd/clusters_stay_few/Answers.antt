use Rattle.pool_rules.proofs.ScheddFew.{event_few, opening_few}
use Rattle.pool_rules.proofs.schedd.clusters_stay_few.Goals as goal

pub returns-clause-openings : goal.returns-clause-openings
returns-clause-openings c = opening_few

pub returns-clause-events : goal.returns-clause-events
returns-clause-events c = event_few
