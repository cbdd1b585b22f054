use Rattle.line_text.proofs.OneOutcome.{not_met, not_passed}
use Rattle.line_text.proofs.laws.expansions_are_not_refused.Goals as goal

pub returns-clause-met : goal.returns-clause-met
returns-clause-met c = not_met

pub returns-clause-passed : goal.returns-clause-passed
returns-clause-passed c = not_passed
