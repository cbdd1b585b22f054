use Rattle.std.proofs.Common.{refl, inl}
use Rattle.cases.proofs.case.Case.text.Goals as goal

pub returns : goal.returns
returns c = inl refl
