use Rattle.ad_token.proofs.Longest.{mark_at, no_mark_at}
use Rattle.ad_token.proofs.laws.marks_are_the_longest.Goals as goal

pub returns-clause-longest : goal.returns-clause-longest
returns-clause-longest c = mark_at

pub returns-clause-none : goal.returns-clause-none
returns-clause-none c = no_mark_at
