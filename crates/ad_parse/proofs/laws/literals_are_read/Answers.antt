use Rattle.ad_parse.proofs.Literals.{value_canon, literal_says, says_within}
use Rattle.ad_parse.proofs.laws.literals_are_read.Goals as goal

pub returns-clause-canonical : goal.returns-clause-canonical
returns-clause-canonical c = value_canon

pub returns-clause-read : goal.returns-clause-read
returns-clause-read c = λ v. (says_within v, literal_says v)
