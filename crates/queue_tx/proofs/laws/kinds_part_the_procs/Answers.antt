use Rattle.queue_tx.proofs.KindParts.{kinds_part_the_procs}
use Rattle.queue_tx.proofs.laws.kinds_part_the_procs.Goals as goal

pub returns : goal.returns
returns c = kinds_part_the_procs
