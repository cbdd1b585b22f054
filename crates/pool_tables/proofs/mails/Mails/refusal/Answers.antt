use Rattle.std.proofs.Common.{rules}
use Rattle.pool_tables.proofs.mails.Mails.refusal.Goals as goal

pub returns-then-not-is_same_daemon : goal.returns-then-not-is_same_daemon
returns-then-not-is_same_daemon c = search rules
