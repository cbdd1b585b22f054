use Rattle.std.proofs.Common.{rules}
use Rattle.pool_tables.proofs.sent.SentCopied.copy.Goals as goal

pub returns : goal.returns
returns c = search rules
