use Rattle.pool_view.proofs.Steps.{step_slots}
use Rattle.pool_view.proofs.laws.steps_keep_slots.Goals as goal

pub returns : goal.returns
returns c = step_slots
