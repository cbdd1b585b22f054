use Rattle.std.proofs.Common.{ap, sym}
use Rattle.queue_log.specs.Errors.{of_store}
use Rattle.queue_log.proofs.error.LogErrorFromStoreError.from.Goals as goal

pub returns-in-Failed : goal.returns-in-Failed
returns-in-Failed c = ap of_store (sym c.in-Failed.is)
