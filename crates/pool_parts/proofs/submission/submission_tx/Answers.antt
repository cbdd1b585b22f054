use Rattle.std.proofs.Common.{rules}
use Rattle.pool_parts.proofs.submission.submission_tx.Goals as goal

pub returns : goal.returns
returns c = search rules
