use Rattle.std.proofs.Common.{◌∙◌, refl, sym}
use Rattle.submit_file.proofs.statement.refusal_contribution.Goals as goal

pub returns : goal.returns
returns c = (refl, sym c.is_memory_error.ensures ∙ c.if-is_memory_error.false)
