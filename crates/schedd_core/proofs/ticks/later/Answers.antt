use Rattle.std.proofs.Common.{rules}
use Rattle.schedd_core.proofs.ticks.later.Goals as goal

pub returns-in-Some : goal.returns-in-Some
returns-in-Some c = search rules
