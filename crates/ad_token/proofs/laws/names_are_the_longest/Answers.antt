use Rattle.ad_token.proofs.Ends.{name_some}
use Rattle.ad_token.proofs.Proper.{name_within, name_stops}
use Rattle.ad_token.proofs.laws.names_are_the_longest.Goals as goal

pub returns-clause-begins : goal.returns-clause-begins
returns-clause-begins c = name_some

pub returns-clause-within : goal.returns-clause-within
returns-clause-within c = name_within

pub returns-clause-stops : goal.returns-clause-stops
returns-clause-stops c = name_stops
