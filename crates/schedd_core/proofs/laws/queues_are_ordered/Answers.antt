use Rattle.schedd_core.proofs.QueueChanges.{built_ordered}
use Rattle.schedd_core.proofs.laws.queues_are_ordered.Goals as goal

pub returns : goal.returns
returns c = built_ordered
