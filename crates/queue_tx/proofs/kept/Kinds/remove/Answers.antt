use Rattle.queue_tx.proofs.KeptJobs.{by_kinds}
use Rattle.queue_tx.proofs.kept.Kinds.remove.Goals as goal

pub returns : goal.returns
returns c = by_kinds _ c.clear.ensures c.clear-2.ensures c.clear-3.ensures
