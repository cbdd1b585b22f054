use Rattle.thin_pool.proofs.Moving.{moves}
use Rattle.thin_pool.proofs.laws.events_make_steps.Goals as goal

pub returns : goal.returns
returns c = moves
