use Rattle.std.proofs.Common.{rules}
use Rattle.queue_record.proofs.reader.Reader.begin.Goals as goal

pub returns : goal.returns
returns c = search rules
