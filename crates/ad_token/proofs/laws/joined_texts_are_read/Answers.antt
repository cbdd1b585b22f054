use Rattle.ad_token.proofs.Joined.{joined_read}
use Rattle.ad_token.proofs.laws.joined_texts_are_read.Goals as goal

pub returns : goal.returns
returns c = joined_read
