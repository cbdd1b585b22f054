use Rattle.std.proofs.Common.{rules}
use Rattle.queue_record.proofs.reader.Reader.close.Goals as goal

pub returns-in-None : goal.returns-in-None
returns-in-None c = search rules
