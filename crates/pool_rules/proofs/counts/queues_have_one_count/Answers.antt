use Rattle.pool_rules.proofs.JobLists.{one_count, some_count}
use Rattle.pool_rules.proofs.counts.queues_have_one_count.Goals as goal

pub returns-clause-some : goal.returns-clause-some
returns-clause-some c = λ q ordered. some_count q ordered.keys

pub returns-clause-one : goal.returns-clause-one
returns-clause-one c = one_count
