use Rattle.std.proofs.Common.{inl, inr, refl}
use Rattle.pool_input.proofs.question.print_answer.Goals as goal

pub returns-in-Ok-print : goal.returns-in-Ok-print
returns-in-Ok-print g c = inl refl

pub returns-in-Ok : goal.returns-in-Ok
returns-in-Ok g c = inr (inl refl)
