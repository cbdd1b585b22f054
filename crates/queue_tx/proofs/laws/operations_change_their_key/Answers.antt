use Rattle.queue_tx.proofs.Transactions.{changes_its_key, leaves_other_keys, stays_a_queue}
use Rattle.queue_tx.proofs.laws.operations_change_their_key.Goals as goal

pub returns : goal.returns
returns c = record { its_own = changes_its_key; others = leaves_other_keys; ordered = stays_a_queue }
