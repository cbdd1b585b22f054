use Rattle.startd_core.proofs.Stays.{new_stays}
use Rattle.startd_core.proofs.startd.Startd.new.Goals as goal

pub invariant_of-result : goal.invariant_of-result
invariant_of-result c = new_stays _ c.new.ensures.items
