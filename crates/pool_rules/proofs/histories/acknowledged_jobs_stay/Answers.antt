use Rattle.pool_rules.proofs.HistoryJobs.{history_known, history_rightly}
use Rattle.pool_rules.proofs.HistoryKept.{history_moves, leads_acked}
use Rattle.pool_rules.proofs.HistorySteps.{takes_done}
use Rattle.pool_rules.proofs.Readers.{some_reads}
use Rattle.pool_rules.proofs.histories.acknowledged_jobs_stay.Goals as goal

pub returns-clause-acknowledged : goal.returns-clause-acknowledged
returns-clause-acknowledged c = leads_acked some_reads.0 some_reads.1

pub returns-clause-known : goal.returns-clause-known
returns-clause-known c = history_known some_reads.0 some_reads.1

pub returns-clause-rightly : goal.returns-clause-rightly
returns-clause-rightly c = history_rightly some_reads.0 some_reads.1

pub returns-clause-done : goal.returns-clause-done
returns-clause-done c = λ o list more s t v w job by h leads before after done.
    (let moves = history_moves some_reads.0 some_reads.1 o list more s t v w h leads before after in takes_done v moves.0 w job by moves.1 done)
