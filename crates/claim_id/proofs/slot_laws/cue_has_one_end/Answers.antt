use Rattle.claim_id.proofs.Ways.{one_end}
use Rattle.claim_id.proofs.slot_laws.cue_has_one_end.Goals as goal

pub returns : goal.returns
returns c = one_end
