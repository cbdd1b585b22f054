use Rattle.pool_view.proofs.Whole.{part_on_all, parts_on_all}
use Rattle.pool_view.proofs.slots.slots_stay_parts.Goals as goal

pub returns-clause-one : goal.returns-clause-one
returns-clause-one c = part_on_all

pub returns-clause-all : goal.returns-clause-all
returns-clause-all c = parts_on_all
