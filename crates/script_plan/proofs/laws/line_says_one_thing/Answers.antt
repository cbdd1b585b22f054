use Rattle.script_plan.proofs.OneEntry.{one_entry}
use Rattle.script_plan.proofs.laws.line_says_one_thing.Goals as goal

pub returns : goal.returns
returns c = one_entry
