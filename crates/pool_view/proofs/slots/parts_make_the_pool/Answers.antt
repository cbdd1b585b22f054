use Rattle.pool_view.proofs.Whole.{shown, parts_of_shown}
use Rattle.pool_view.proofs.slots.parts_make_the_pool.Goals as goal

pub returns-clause-shown : goal.returns-clause-shown
returns-clause-shown c = shown

pub returns-clause-parts : goal.returns-clause-parts
returns-clause-parts c = parts_of_shown
