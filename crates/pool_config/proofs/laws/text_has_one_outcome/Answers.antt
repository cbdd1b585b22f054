use Rattle.pool_config.proofs.OneOutcome.{every_text, one_outcome}
use Rattle.pool_config.proofs.laws.text_has_one_outcome.Goals as goal

pub returns-clause-some : goal.returns-clause-some
returns-clause-some c = every_text

pub returns-clause-one : goal.returns-clause-one
returns-clause-one c = one_outcome
