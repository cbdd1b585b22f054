use Rattle.startd_slot.proofs.Starts.{runs_start_matched}
use Rattle.startd_slot.proofs.laws.runs_start_matched.Goals as goal

pub returns : goal.returns
returns c = runs_start_matched
