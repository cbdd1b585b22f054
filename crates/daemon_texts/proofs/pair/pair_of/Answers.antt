use Rattle.std.proofs.Common.{rules}
use Rattle.daemon_texts.proofs.pair.pair_of.Goals as goal

pub returns-in-text-5 : goal.returns-in-text-5
returns-in-text-5 c = search rules
