use Rattle.pool_view.proofs.Parts.{far_part}
use Rattle.pool_view.proofs.slots.moves_elsewhere_keep_slots.Goals as goal

pub returns : goal.returns
returns c = far_part
