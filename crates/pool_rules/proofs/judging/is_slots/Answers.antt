use Rattle.pool_rules.proofs.Judged.{none_passes, some_passes}
use Rattle.pool_rules.proofs.judging.is_slots.Goals as goal

pub returns-in-Some : goal.returns-in-Some
returns-in-Some c = some_passes _ c.in-Some.ensures c.same.ensures

pub returns-in-None : goal.returns-in-None
returns-in-None c = none_passes _ c.in-None.ensures
