use Rattle.std.proofs.Common.{rules}
use Rattle.daemon_texts.proofs.field.interval_of.Goals as goal

pub returns-in-Ok-eq0-clause-seconds : goal.returns-in-Ok-eq0-clause-seconds
returns-in-Ok-eq0-clause-seconds c = search rules
