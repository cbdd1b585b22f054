use Rattle.pool_config.proofs.InRange.{seconds_fit}
use Rattle.pool_config.proofs.laws.seconds_are_in_range.Goals as goal

pub returns : goal.returns
returns c = seconds_fit
