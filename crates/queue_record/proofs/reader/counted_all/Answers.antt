use Rattle.std.proofs.Common.{arith, ◌∙◌}
use Rattle.queue_record.proofs.Feeding.{counted_is}
use Rattle.queue_record.proofs.reader.counted_all.Goals as goal

pub returns : goal.returns
returns c = let small = c.ranges.count.fits in c.saturating_add.ensures ∙ counted_is c.args.count c.args.bytes.now (omega arith)
