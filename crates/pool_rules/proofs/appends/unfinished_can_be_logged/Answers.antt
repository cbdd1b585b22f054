use Rattle.pool_rules.proofs.LogPools.{finishes, kept_plan_logs, submitted_logs}
use Rattle.pool_rules.proofs.appends.unfinished_can_be_logged.Goals as goal

pub returns-clause-plans : goal.returns-clause-plans
returns-clause-plans c = kept_plan_logs

pub returns-clause-submissions : goal.returns-clause-submissions
returns-clause-submissions c = submitted_logs

pub returns-clause-queues : goal.returns-clause-queues
returns-clause-queues c = finishes
