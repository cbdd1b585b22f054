use Rattle.ad_eval.proofs.SameLemmas.{same_is}
use Rattle.ad_eval.proofs.operators.same.Goals as goal

pub returns : goal.returns
returns c = same_is _ _ _ c.same.ensures
