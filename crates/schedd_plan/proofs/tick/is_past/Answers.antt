use Rattle.std.proofs.Common.{rules}
use Rattle.schedd_plan.proofs.tick.is_past.Goals as goal

pub returns-in-Some : goal.returns-in-Some
returns-in-Some c = search rules
