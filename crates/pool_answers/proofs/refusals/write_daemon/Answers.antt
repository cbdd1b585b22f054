use Rattle.std.proofs.Common.{rules}
use Rattle.pool_answers.proofs.refusals.write_daemon.Goals as goal

pub returns-in-Matchmaker : goal.returns-in-Matchmaker
returns-in-Matchmaker c = search rules
