use Rattle.line_text.proofs.EveryOutcome.{every_outcome}
use Rattle.line_text.proofs.laws.every_text_has_an_outcome.Goals as goal

pub returns : goal.returns
returns c = every_outcome
