use Rattle.std.proofs.Common.{rules}
use Rattle.pool_answers.proofs.refusals.write_some_number.Goals as goal

pub returns-in-None : goal.returns-in-None
returns-in-None c = search rules
