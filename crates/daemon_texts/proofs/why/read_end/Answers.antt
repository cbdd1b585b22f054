use Rattle.std.proofs.Common.{rules}
use Rattle.daemon_texts.proofs.why.read_end.Goals as goal

pub returns-in-Evicted : goal.returns-in-Evicted
returns-in-Evicted c = search rules
