use Rattle.startd_core.proofs.TimeRows.{slot_leads}
use Rattle.startd_core.proofs.laws.cues_of_time_are_known.Goals as goal

pub returns : goal.returns
returns c = slot_leads
