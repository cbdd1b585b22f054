use Rattle.ad_eval.proofs.SameLemmas.{is_identity}
use Rattle.ad_eval.proofs.laws.identity_is_equality.Goals as goal

pub returns : goal.returns
returns c = is_identity
