use Rattle.matchmaker.proofs.Ticks.{add_up}
use Rattle.matchmaker.proofs.priority_laws.ticks_add_up.Goals as goal

pub returns : goal.returns
returns c = add_up
