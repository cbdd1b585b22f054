use Rattle.pool_rules.proofs.HistoryKept.{accepted_steps}
use Rattle.pool_rules.proofs.HistoryLaunches.{accepted_launches}
use Rattle.pool_rules.proofs.Readers.{some_reads}
use Rattle.pool_rules.proofs.pools.events_move_views.Goals as goal

pub returns-clause-steps : goal.returns-clause-steps
returns-clause-steps c = accepted_steps some_reads.0 some_reads.1

pub returns-clause-launches : goal.returns-clause-launches
returns-clause-launches c = λ p s e r new k. accepted_launches some_reads.0 some_reads.1 p s k e r new
