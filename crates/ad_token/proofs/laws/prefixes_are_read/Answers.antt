use Rattle.ad_token.proofs.Scoped.{named_at, alone_at, too_long_at}
use Rattle.ad_token.proofs.laws.prefixes_are_read.Goals as goal

pub returns-clause-named : goal.returns-clause-named
returns-clause-named c = named_at

pub returns-clause-alone : goal.returns-clause-alone
returns-clause-alone c = alone_at

pub returns-clause-too_long : goal.returns-clause-too_long
returns-clause-too_long c = too_long_at
