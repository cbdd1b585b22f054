use Rattle.negotiate.proofs.Snapshots as laws
use Rattle.negotiate.proofs.laws.idle_for_cause.Goals as goal

pub returns : goal.returns
returns c = laws.cycles_idle_for_cause
