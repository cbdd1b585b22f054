use Rattle.pool_rules.proofs.HistoryKept.{history_asked, reacts_leaves}
use Rattle.pool_rules.proofs.Readers.{some_reads}
use Rattle.pool_rules.proofs.histories.orders_are_asked.Goals as goal

pub returns-clause-event : goal.returns-clause-event
returns-clause-event c = λ s e r new job reacts there. (reacts_leaves some_reads.0 some_reads.1 s e r new reacts).asked job there

pub returns-clause-kept : goal.returns-clause-kept
returns-clause-kept c = λ s e r new job reacts there. (reacts_leaves some_reads.0 some_reads.1 s e r new reacts).ordered job there

pub returns-clause-history : goal.returns-clause-history
returns-clause-history c = history_asked some_reads.0 some_reads.1
