use Rattle.ad_token.proofs.Written.{written_at, unclosed_at}
use Rattle.ad_token.proofs.laws.strings_are_read.Goals as goal

pub returns-clause-closed : goal.returns-clause-closed
returns-clause-closed c = written_at

pub returns-clause-unclosed : goal.returns-clause-unclosed
returns-clause-unclosed c = unclosed_at
