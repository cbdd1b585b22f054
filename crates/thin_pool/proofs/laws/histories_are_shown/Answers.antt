use Rattle.thin_pool.proofs.Showing.{shows}
use Rattle.thin_pool.proofs.laws.histories_are_shown.Goals as goal

pub returns : goal.returns
returns c = shows
