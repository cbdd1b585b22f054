use Rattle.std.proofs.Common.{rules}
use Rattle.schedd_plan.proofs.plan.push_next_run.Goals as goal

pub returns : goal.returns
returns c = search rules
