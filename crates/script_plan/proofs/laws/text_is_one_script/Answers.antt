use Rattle.script_plan.proofs.LawLemmas.{one_script}
use Rattle.script_plan.proofs.laws.text_is_one_script.Goals as goal

pub returns : goal.returns
returns c = one_script
