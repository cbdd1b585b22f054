use Rattle.std.proofs.Common.{rules}
use Rattle.queue_log.proofs.logged.split_last.Goals as goal

pub returns : goal.returns
returns c = search rules
