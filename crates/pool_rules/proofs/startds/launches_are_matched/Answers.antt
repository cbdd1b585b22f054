use Rattle.pool_rules.proofs.StartdLaunching.{launched_is_matched}
use Rattle.pool_rules.proofs.startds.launches_are_matched.Goals as goal

pub returns : goal.returns
returns c = launched_is_matched
