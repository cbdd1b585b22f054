use Rattle.std.proofs.Math.Facts.{to_z-of_z}
use Rattle.daemon_texts.proofs.why.write_ranks.Goals as goal

pub returns : goal.returns
returns c = simp (to_z-of_z c.ranges.old, to_z-of_z c.ranges.new) at c.write.ensures.bytes
