use Rattle.queue_record.proofs.Transactions.{text_settles}
use Rattle.queue_record.proofs.laws.printed_transactions_are_read.Goals as goal

pub returns : goal.returns
returns c = λ r os q are short texts rest does_it. text_settles r os q are short texts rest.good rest.no_part rest.none_open does_it
