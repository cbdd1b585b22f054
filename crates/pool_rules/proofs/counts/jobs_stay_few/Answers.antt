use Rattle.pool_rules.proofs.FewJobs.{event_few_jobs, history_few_jobs, opening_few_jobs}
use Rattle.pool_rules.proofs.Readers.{some_reads}
use Rattle.pool_rules.proofs.counts.jobs_stay_few.Goals as goal

pub returns-clause-openings : goal.returns-clause-openings
returns-clause-openings c = opening_few_jobs

pub returns-clause-events : goal.returns-clause-events
returns-clause-events c = λ s new e r few free reacts. event_few_jobs some_reads.0 some_reads.1 s few e r new free reacts

pub returns-clause-histories : goal.returns-clause-histories
returns-clause-histories c = history_few_jobs some_reads.0 some_reads.1
