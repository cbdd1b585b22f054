use Rattle.std.proofs.Common.{ap, sym}
use Rattle.ad_eval.specs.Mean.{opposite}
use Rattle.ad_eval.proofs.sides.opposite.Goals as goal

pub returns-in-My : goal.returns-in-My
returns-in-My c = ap opposite (sym c.in-My.is)
