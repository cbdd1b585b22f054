use Rattle.negotiate.proofs.Snapshots as laws
use Rattle.negotiate.proofs.laws.ceilings_are_kept.Goals as goal

pub returns : goal.returns
returns c = laws.ceilings_are_kept
