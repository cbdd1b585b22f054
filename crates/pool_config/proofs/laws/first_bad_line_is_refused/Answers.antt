use Rattle.pool_config.proofs.OneOutcome.{first_refused}
use Rattle.pool_config.proofs.laws.first_bad_line_is_refused.Goals as goal

pub returns : goal.returns
returns c = first_refused
