use Rattle.std.proofs.Common.{rules}
use Rattle.startd_slot.proofs.slot.SlotState.end_claim.Goals as goal

pub returns : goal.returns
returns c = search rules
