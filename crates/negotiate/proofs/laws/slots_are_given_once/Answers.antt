use Rattle.negotiate.proofs.Snapshots as laws
use Rattle.negotiate.proofs.laws.slots_are_given_once.Goals as goal

pub returns : goal.returns
returns c = laws.cycles_give_once
