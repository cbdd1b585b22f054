use Rattle.std.proofs.Common.{refl}
use Rattle.queue_log.proofs.recover.Opening.into_parts.Goals as goal

pub returns : goal.returns
returns c = refl
