use Rattle.claim_id.proofs.OneText.{one_claim}
use Rattle.claim_id.proofs.laws.claim_text_is_of_one_claim.Goals as goal

pub returns : goal.returns
returns c = one_claim
