use Rattle.pool_rules.proofs.HistoryKept.{history_safe}
use Rattle.pool_rules.proofs.Readers.{some_reads}
use Rattle.pool_rules.proofs.histories.histories_are_safe.Goals as goal

pub returns-clause-safe : goal.returns-clause-safe
returns-clause-safe c = history_safe some_reads.0 some_reads.1

pub returns-clause-matched : goal.returns-clause-matched
returns-clause-matched c = λ o list s v h shows. (history_safe some_reads.0 some_reads.1 o list s v h shows).matched

pub returns-clause-one_run_per_slot : goal.returns-clause-one_run_per_slot
returns-clause-one_run_per_slot c = λ o list s v h shows. (history_safe some_reads.0 some_reads.1 o list s v h shows).one_run_per_slot

pub returns-clause-one_lease_per_job : goal.returns-clause-one_lease_per_job
returns-clause-one_lease_per_job c = λ o list s v h shows. (history_safe some_reads.0 some_reads.1 o list s v h shows).one_lease_per_job

pub returns-clause-acknowledged_kept : goal.returns-clause-acknowledged_kept
returns-clause-acknowledged_kept c = λ o list s v h shows. (history_safe some_reads.0 some_reads.1 o list s v h shows).acknowledged_kept

pub returns-clause-endings_said : goal.returns-clause-endings_said
returns-clause-endings_said c = λ o list s v h shows. (history_safe some_reads.0 some_reads.1 o list s v h shows).endings_said
