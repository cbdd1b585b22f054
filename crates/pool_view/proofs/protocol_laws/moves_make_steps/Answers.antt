use Rattle.pool_view.proofs.Moves.{move_takes}
use Rattle.pool_view.proofs.protocol_laws.moves_make_steps.Goals as goal

pub returns : goal.returns
returns c = move_takes
