use Rattle.pool_rules.proofs.HistoryKept.{event_steps, history_moves}
use Rattle.pool_rules.proofs.Readers.{some_reads}
use Rattle.pool_rules.proofs.histories.events_make_steps.Goals as goal

pub returns-clause-event : goal.returns-clause-event
returns-clause-event c = event_steps some_reads.0 some_reads.1

pub returns-clause-all : goal.returns-clause-all
returns-clause-all c = history_moves some_reads.0 some_reads.1
