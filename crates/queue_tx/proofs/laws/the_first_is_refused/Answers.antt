use Rattle.queue_tx.proofs.Transactions.{refuses_the_first}
use Rattle.queue_tx.proofs.laws.the_first_is_refused.Goals as goal

pub returns : goal.returns
returns c = refuses_the_first
