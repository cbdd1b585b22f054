use Rattle.std.proofs.Common.{refl}
use Rattle.cases.proofs.case.Case.natural.Goals as goal

pub returns-in-Err : goal.returns-in-Err
returns-in-Err c = refl
