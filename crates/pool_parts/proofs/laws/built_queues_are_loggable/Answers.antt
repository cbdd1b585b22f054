use Rattle.pool_parts.proofs.Rooms.{built_has_room, built_is_loggable}
use Rattle.pool_parts.proofs.laws.built_queues_are_loggable.Goals as goal

pub returns-clause-room : goal.returns-clause-room
returns-clause-room c = built_has_room

pub returns-clause-loggable : goal.returns-clause-loggable
returns-clause-loggable c = built_is_loggable
