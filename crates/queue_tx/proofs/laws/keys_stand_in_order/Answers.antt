use Rattle.queue_tx.proofs.Transactions.{same_keys}
use Rattle.queue_tx.proofs.laws.keys_stand_in_order.Goals as goal

pub returns-clause-same : goal.returns-clause-same
returns-clause-same c = same_keys
