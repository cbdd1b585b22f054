use Rattle.pool_view.proofs.Moves.{move_good}
use Rattle.pool_view.proofs.protocol_laws.moves_keep_facts.Goals as goal

pub returns-clause-facts : goal.returns-clause-facts
returns-clause-facts c = λ p m facts safe may. (move_good p m facts safe may).0

pub returns-clause-safe : goal.returns-clause-safe
returns-clause-safe c = λ p m facts safe may. (move_good p m facts safe may).1
