use Rattle.thin_pool.proofs.Consistent.{after_consistent}
use Rattle.thin_pool.proofs.laws.events_keep_consistent.Goals as goal

pub returns : goal.returns
returns c = after_consistent
