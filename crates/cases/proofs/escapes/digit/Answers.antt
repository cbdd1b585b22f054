use Rattle.std.proofs.Common.{arith}
use Rattle.cases.proofs.escapes.digit.Goals as goal

pub returns-in-97-to-102 : goal.returns-in-97-to-102
returns-in-97-to-102 c = omega arith
