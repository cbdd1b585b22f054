use Rattle.std.proofs.Common.{rules}
use Rattle.pool_state.proofs.opening.is_next_slot.Goals as goal

pub returns-then-slot-eq1 : goal.returns-then-slot-eq1
returns-then-slot-eq1 c = search rules
