use Rattle.std.proofs.Common.{ap, sym}
use Rattle.ad_parse.specs.Operators.{level_of}
use Rattle.ad_parse.proofs.levels.level_of.Goals as goal

pub returns-in-And : goal.returns-in-And
returns-in-And c = ap level_of (sym c.in-And.is)

pub returns-in-Or : goal.returns-in-Or
returns-in-Or c = ap level_of (sym c.in-Or.is)
