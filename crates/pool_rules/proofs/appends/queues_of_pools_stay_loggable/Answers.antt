use Rattle.pool_rules.proofs.LogEvents.{event_loggable}
use Rattle.pool_rules.proofs.appends.queues_of_pools_stay_loggable.Goals as goal

pub returns : goal.returns
returns c = event_loggable
