use Rattle.negotiate.proofs.Snapshots as laws
use Rattle.negotiate.proofs.laws.matches_are_sound.Goals as goal

pub returns : goal.returns
returns c = laws.cycles_are_sound
