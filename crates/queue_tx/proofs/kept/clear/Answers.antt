use Rattle.queue_tx.proofs.KeptJobs.{key_cleared}
use Rattle.queue_tx.proofs.kept.clear.Goals as goal

pub returns : goal.returns
returns c = key_cleared c.args.key.now c.args.keys.now c.remove.new.self c.remove.ensures.sorted c.remove.ensures.entries
