use Rattle.std.proofs.Common.{rules}
use Rattle.queue_record.proofs.reader.Reader.add.Goals as goal

pub returns-in-Ok : goal.returns-in-Ok
returns-in-Ok c = search rules
