use Rattle.std.proofs.Common.{refl}
use Rattle.pool_cases.proofs.loggable_jobs.is_loggable.Goals as goal

pub returns-then-has_room : goal.returns-then-has_room
returns-then-has_room c = λ prints like.
    record { room = c.if-has_room.ensures refl; printable = c.is_printable.ensures prints like }
