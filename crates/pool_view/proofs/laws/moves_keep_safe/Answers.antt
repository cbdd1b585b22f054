use Rattle.pool_view.proofs.Steps.{takes_safe}
use Rattle.pool_view.proofs.laws.moves_keep_safe.Goals as goal

pub returns : goal.returns
returns c = λ v w safe leased moves. takes_safe v moves.0 w moves.1 safe leased
