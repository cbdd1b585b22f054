use Rattle.pool_parts.proofs.PlanLogs.{plan_logs}
use Rattle.pool_parts.proofs.laws.plans_can_be_logged.Goals as goal

pub returns : goal.returns
returns c = plan_logs
