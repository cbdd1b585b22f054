use Rattle.script_plan.proofs.LawLemmas.{not_refused}
use Rattle.script_plan.proofs.laws.scripts_are_not_refused.Goals as goal

pub returns : goal.returns
returns c = not_refused
