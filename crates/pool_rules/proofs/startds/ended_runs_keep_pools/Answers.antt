use Rattle.pool_rules.proofs.StartdGoing.{ended_goes_on}
use Rattle.pool_rules.proofs.startds.ended_runs_keep_pools.Goals as goal

pub returns : goal.returns
returns c = ended_goes_on
