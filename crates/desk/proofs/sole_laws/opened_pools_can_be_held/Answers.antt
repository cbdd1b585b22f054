use Rattle.desk.proofs.Holding.{can_be_held}
use Rattle.desk.proofs.sole_laws.opened_pools_can_be_held.Goals as goal

pub returns : goal.returns
returns c = can_be_held
