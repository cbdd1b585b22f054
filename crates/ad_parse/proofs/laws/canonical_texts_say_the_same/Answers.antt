use Rattle.ad_parse.proofs.Reread.{again}
use Rattle.ad_parse.proofs.laws.canonical_texts_say_the_same.Goals as goal

pub returns : goal.returns
returns c = again
