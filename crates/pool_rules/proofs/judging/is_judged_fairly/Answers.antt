use Rattle.std.proofs.Common.{ap}
use Rattle.std.specs.Option.{option_copied}
use Rattle.pool_rules.proofs.Judged.{none_given, some_given}
use Rattle.pool_rules.proofs.judging.is_judged_fairly.Goals as goal

pub returns-in-None : goal.returns-in-None
returns-in-None c = none_given _ (ap option_copied c.in-None.is)

pub returns-in-Some : goal.returns-in-Some
returns-in-Some c = some_given _ (ap option_copied c.in-Some.is) c.is_of.ensures
