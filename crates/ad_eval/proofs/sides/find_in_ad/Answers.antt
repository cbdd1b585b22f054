use Rattle.std.proofs.Common.{sym}
use Rattle.ad_eval.proofs.FindLemmas.{found_no_larger}
use Rattle.ad_eval.proofs.sides.find_in_ad.Goals as goal

pub returns-clause-size : goal.returns-clause-size
returns-clause-size c = found_no_larger _ _ _ (sym c.in_ok-expr.ensures)
