use Rattle.queue_tx.proofs.Transactions.{sequence_is_one}
use Rattle.queue_tx.proofs.laws.sequences_are_transactions.Goals as goal

pub returns : goal.returns
returns c = sequence_is_one
