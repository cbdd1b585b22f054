use Rattle.pool_rules.proofs.StartdGoing.{booted_goes_on}
use Rattle.pool_rules.proofs.startds.boots_keep_pools.Goals as goal

pub returns : goal.returns
returns c = booted_goes_on
