use Rattle.queue_record.proofs.Transactions.{text_stays}
use Rattle.queue_record.proofs.laws.torn_transactions_say_nothing.Goals as goal

pub returns : goal.returns
returns c = λ r os count are short texts rest less. text_stays r os count are short texts rest.good rest.no_part rest.none_open less
