use Rattle.pool_rules.proofs.ScheddFree.{submit_keeps}
use Rattle.pool_rules.proofs.schedd.submissions_keep_pools.Goals as goal

pub returns : goal.returns
returns c = submit_keeps
