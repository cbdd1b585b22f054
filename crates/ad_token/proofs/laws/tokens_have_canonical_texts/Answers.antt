use Rattle.ad_token.proofs.Proper.{tokens_fit}
use Rattle.ad_token.proofs.laws.tokens_have_canonical_texts.Goals as goal

pub returns : goal.returns
returns c = tokens_fit
