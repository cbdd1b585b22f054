use Rattle.std.proofs.Common.{sym}
use Rattle.queue_record.proofs.Feeding.{fed_append}
use Rattle.queue_record.proofs.laws.pieces_are_one.Goals as goal

pub returns : goal.returns
returns c = λ r piece more. sym (fed_append r piece more)
