use Rattle.line_text.proofs.OneRefusal.{one_refusal}
use Rattle.line_text.proofs.laws.refusals_are_one.Goals as goal

pub returns : goal.returns
returns c = one_refusal
