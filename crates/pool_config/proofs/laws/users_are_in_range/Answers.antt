use Rattle.pool_config.proofs.InRange.{users_fit}
use Rattle.pool_config.proofs.laws.users_are_in_range.Goals as goal

pub returns : goal.returns
returns c = users_fit
