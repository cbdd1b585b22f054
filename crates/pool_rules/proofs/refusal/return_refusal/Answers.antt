use Rattle.std.proofs.Common.{rules}
use Rattle.pool_rules.proofs.refusal.return_refusal.Goals as goal

pub returns-in-Startd : goal.returns-in-Startd
returns-in-Startd c = search rules
