use Rattle.std.proofs.Common.{rules}
use Rattle.pool_parts.proofs.answer.Answer.keep.Goals as goal

pub returns-in_ok-copy-in-Launch : goal.returns-in_ok-copy-in-Launch
returns-in_ok-copy-in-Launch c = search rules
