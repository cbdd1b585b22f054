use Rattle.pool_rules.proofs.PoolEvents.{event_keeps}
use Rattle.pool_rules.proofs.Readers.{some_reads}
use Rattle.pool_rules.proofs.pools.events_keep_pools.Goals as goal

pub returns : goal.returns
returns c = λ p s e r new k few given free reacts. event_keeps some_reads.0 some_reads.1 p s k few e r new given free reacts
