use Rattle.pool_view.proofs.Parts.{own_part}
use Rattle.pool_view.proofs.slots.moves_change_their_slot.Goals as goal

pub returns : goal.returns
returns c = own_part
