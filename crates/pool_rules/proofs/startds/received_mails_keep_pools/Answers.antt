use Rattle.pool_rules.proofs.StartdGoing.{received_goes_on}
use Rattle.pool_rules.proofs.startds.received_mails_keep_pools.Goals as goal

pub returns : goal.returns
returns c = received_goes_on
