use Rattle.pool_rules.proofs.HistoryCounts.{history_bytes, history_counted}
use Rattle.pool_rules.proofs.Readers.{some_reads}
use Rattle.pool_rules.proofs.counts.counts_are_exact.Goals as goal

pub returns-clause-jobs : goal.returns-clause-jobs
returns-clause-jobs c = λ o list s h. (history_counted some_reads.0 some_reads.1 o list s h).jobs

pub returns-clause-bytes : goal.returns-clause-bytes
returns-clause-bytes c = history_bytes some_reads.0 some_reads.1
