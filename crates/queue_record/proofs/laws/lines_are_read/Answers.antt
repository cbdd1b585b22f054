use Rattle.queue_record.proofs.RecordLemmas.{read_is_record, record_is_read}
use Rattle.queue_record.proofs.laws.lines_are_read.Goals as goal

pub returns : goal.returns
returns c = λ line e. (read_is_record line e, record_is_read line e)
