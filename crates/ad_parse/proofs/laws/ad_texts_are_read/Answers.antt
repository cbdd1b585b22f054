use Rattle.ad_parse.proofs.AdTexts.{says_is_given, given_is_said}
use Rattle.ad_parse.proofs.AdRefusals.{refused_is_given, given_is_refused}
use Rattle.ad_parse.proofs.laws.ad_texts_are_read.Goals as goal

pub returns-clause-found : goal.returns-clause-found
returns-clause-found c = λ text ad. (given_is_said text ad, says_is_given text ad)

pub returns-clause-refused : goal.returns-clause-refused
returns-clause-refused c = λ text f. (given_is_refused text f, refused_is_given text f)
