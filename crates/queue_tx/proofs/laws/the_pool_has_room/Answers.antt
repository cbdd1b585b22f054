use Rattle.queue_tx.proofs.Rooms.{room_for_the_pool}
use Rattle.queue_tx.proofs.laws.the_pool_has_room.Goals as goal

pub returns : goal.returns
returns c = room_for_the_pool
