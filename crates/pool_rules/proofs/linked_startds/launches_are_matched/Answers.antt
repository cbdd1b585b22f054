use Rattle.pool_rules.proofs.Launching.{permits_matched}
use Rattle.pool_rules.proofs.linked_startds.launches_are_matched.Goals as goal

pub returns : goal.returns
returns c = permits_matched
