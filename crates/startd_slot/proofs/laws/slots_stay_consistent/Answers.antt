use Rattle.startd_slot.proofs.KeepsReactions.{reaction_kept, ending_kept}
use Rattle.startd_slot.proofs.laws.slots_stay_consistent.Goals as goal

pub returns-clause-mails : goal.returns-clause-mails
returns-clause-mails c = reaction_kept

pub returns-clause-ends : goal.returns-clause-ends
returns-clause-ends c = λ boot slot ending reading here consistent settled. ending_kept boot slot.id slot.state ending reading here consistent settled
