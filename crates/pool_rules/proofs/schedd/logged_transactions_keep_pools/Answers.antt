use Rattle.pool_rules.proofs.ScheddLogged.{logged_keeps}
use Rattle.pool_rules.proofs.schedd.logged_transactions_keep_pools.Goals as goal

pub returns : goal.returns
returns c = logged_keeps
