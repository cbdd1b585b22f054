use Rattle.std.proofs.Common.{rules}
use Rattle.ad_func.proofs.texts.end_of.Goals as goal

pub returns-then-length-lt0 : goal.returns-then-length-lt0
returns-then-length-lt0 c = search rules
