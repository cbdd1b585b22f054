use Rattle.pool_core.proofs.Keeping.{names_differ, opened_kept}
use Rattle.pool_core.proofs.Resting.{opened_rest}
use Rattle.pool_core.proofs.pool.Pool.open.Goals as goal

pub invariant_of-result : goal.invariant_of-result
invariant_of-result c = opened_kept c.args.opening _ c.requires.can c.requires.keys c.room.ensures.ordered c.room.ensures.room (opened_rest c.in_ok-state.ensures)

pub returns-clause-ordered : goal.returns-clause-ordered
returns-clause-ordered c = names_differ c.args.opening.queue c.room.ensures.ordered c.room.ensures.room
