use Rattle.pool_rules.proofs.HistoryJobs.{submitted_acked}
use Rattle.pool_rules.proofs.PoolOpening.{listed_jobs}
use Rattle.pool_rules.proofs.Readers.{some_reads}
use Rattle.pool_rules.proofs.histories.jobs_are_acknowledged.Goals as goal

pub returns-clause-opening : goal.returns-clause-opening
returns-clause-opening c = λ o s job opened. listed_jobs o.queue s.acked opened.acked job

pub returns-clause-submitted : goal.returns-clause-submitted
returns-clause-submitted c = submitted_acked some_reads.0 some_reads.1
