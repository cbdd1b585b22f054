use Rattle.pool_config.proofs.Owners.{owner_named}
use Rattle.pool_config.proofs.laws.owner_is_a_name.Goals as goal

pub returns : goal.returns
returns c = owner_named
