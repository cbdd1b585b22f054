use Rattle.ad_rows.proofs.Feeding.{same_have_one_digest}
use Rattle.ad_rows.proofs.laws.same_attributes_have_one_digest.Goals as goal

pub returns : goal.returns
returns c = same_have_one_digest
