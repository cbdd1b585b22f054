use Rattle.thin_pool.proofs.Showing.{slots_kept}
use Rattle.thin_pool.proofs.laws.events_keep_slots.Goals as goal

pub returns : goal.returns
returns c = slots_kept
