use Rattle.std.proofs.Common.{rules}
use Rattle.schedd_plan.proofs.ended.completed_plan.Goals as goal

pub returns-in-Removed : goal.returns-in-Removed
returns-in-Removed c = search rules
