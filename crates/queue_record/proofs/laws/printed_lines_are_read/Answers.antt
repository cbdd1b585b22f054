use Rattle.queue_record.proofs.Printed.{printed_line, printed_short, printed_record}
use Rattle.queue_record.proofs.laws.printed_lines_are_read.Goals as goal

pub returns-clause-one : goal.returns-clause-one
returns-clause-one c = λ o is short. (printed_line o is short, printed_short o short)

pub returns-clause-read : goal.returns-clause-read
returns-clause-read c = printed_record
