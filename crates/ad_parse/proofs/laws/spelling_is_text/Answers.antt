use Rattle.ad_parse.proofs.Again.{spelled_again}
use Rattle.ad_parse.proofs.laws.spelling_is_text.Goals as goal

pub returns : goal.returns
returns c = spelled_again
