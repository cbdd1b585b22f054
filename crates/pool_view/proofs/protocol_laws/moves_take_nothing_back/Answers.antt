use Rattle.pool_view.proofs.Growing.{moves_remember, moves_dead}
use Rattle.pool_view.proofs.protocol_laws.moves_take_nothing_back.Goals as goal

pub returns-clause-remembered : goal.returns-clause-remembered
returns-clause-remembered c = moves_remember

pub returns-clause-dead : goal.returns-clause-dead
returns-clause-dead c = moves_dead
