use Rattle.pool_rules.proofs.Viewing.{acked_known, left_rightly}
use Rattle.pool_rules.proofs.linked_pools.acknowledged_jobs_stay.Goals as goal

pub returns-clause-known : goal.returns-clause-known
returns-clause-known c = acked_known

pub returns-clause-rightly : goal.returns-clause-rightly
returns-clause-rightly c = left_rightly
