use Rattle.std.proofs.Common.{rules}
use Rattle.schedd_core.proofs.checks.policy_plan.Goals as goal

pub returns-then-branch-3 : goal.returns-then-branch-3
returns-then-branch-3 c = search rules
