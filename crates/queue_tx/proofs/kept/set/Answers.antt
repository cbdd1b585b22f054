use Rattle.queue_tx.proofs.KeptJobs.{key_set}
use Rattle.queue_tx.proofs.kept.set.Goals as goal

pub returns : goal.returns
returns c = key_set c.args.entry.0 c.args.entry.1 c.args.keys.now c.put.new.self c.put.ensures.entries
