use Rattle.thin_pool.proofs.Consistent.{placed_start}
use Rattle.thin_pool.proofs.laws.starts_are_placed.Goals as goal

pub returns : goal.returns
returns c = placed_start
