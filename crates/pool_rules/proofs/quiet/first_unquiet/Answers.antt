use Rattle.std.proofs.Common.{rules}
use Rattle.pool_rules.proofs.quiet.first_unquiet.Goals as goal

pub returns-in-Some-not_quiet-2 : goal.returns-in-Some-not_quiet-2
returns-in-Some-not_quiet-2 c = search rules
