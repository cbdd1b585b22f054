use Rattle.std.proofs.Common.{rules}
use Rattle.ad_func.proofs.numbers.has_plus.Goals as goal

pub returns : goal.returns
returns c = search rules
