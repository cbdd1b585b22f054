use Rattle.ad_parse.proofs.Shortest.{fewest_tokens}
use Rattle.ad_parse.proofs.laws.canonical_texts_have_the_fewest_tokens.Goals as goal

pub returns : goal.returns
returns c = fewest_tokens
