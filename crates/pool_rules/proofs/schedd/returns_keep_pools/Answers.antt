use Rattle.pool_rules.proofs.ScheddBack.{return_keeps}
use Rattle.pool_rules.proofs.schedd.returns_keep_pools.Goals as goal

pub returns : goal.returns
returns c = return_keeps
