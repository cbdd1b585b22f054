use Rattle.std.proofs.Common.{rules}
use Rattle.pool_outer.proofs.sink.standard.StdSinkSink.write.Goals as goal

pub returns-in-Ok-clause-progress : goal.returns-in-Ok-clause-progress
returns-in-Ok-clause-progress c = search rules
