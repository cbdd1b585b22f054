use Rattle.ad_token.proofs.Joined.{text_read}
use Rattle.ad_token.proofs.laws.canonical_texts_are_read.Goals as goal

pub returns : goal.returns
returns c = text_read
