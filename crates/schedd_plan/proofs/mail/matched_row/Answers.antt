use Rattle.std.proofs.Common.{rules}
use Rattle.schedd_plan.proofs.mail.matched_row.Goals as goal

pub returns-then-is_none : goal.returns-then-is_none
returns-then-is_none c = search rules
