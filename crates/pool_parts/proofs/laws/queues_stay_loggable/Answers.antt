use Rattle.pool_parts.proofs.Rooms.{keys_stay, room_stays}
use Rattle.pool_parts.proofs.laws.queues_stay_loggable.Goals as goal

pub returns-clause-room : goal.returns-clause-room
returns-clause-room c = room_stays

pub returns-clause-keys : goal.returns-clause-keys
returns-clause-keys c = keys_stay
