use Rattle.pool_config.proofs.Limits.{read_own}
use Rattle.pool_config.proofs.laws.own_attributes_come_last.Goals as goal

pub returns : goal.returns
returns c = read_own
