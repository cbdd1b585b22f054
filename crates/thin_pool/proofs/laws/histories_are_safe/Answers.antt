use Rattle.thin_pool.proofs.Moving.{history_moves}
use Rattle.thin_pool.proofs.laws.histories_are_safe.Goals as goal

pub returns : goal.returns
returns c = history_moves
