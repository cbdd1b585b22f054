use Rattle.std.proofs.Common.{rules}
use Rattle.cases.proofs.case.Case.bytes.Goals as goal

pub returns-in-None : goal.returns-in-None
returns-in-None c = search rules
