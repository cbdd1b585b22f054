use Rattle.std.proofs.Common.{refl}
use Rattle.startd_core.specs.Startds.{after_slots, no_ticks}
use Rattle.startd_core.proofs.PermitRows.{mail_permits, end_permits, kill_permits}
use Rattle.startd_core.proofs.laws.permits_come_of_activates.Goals as goal

pub returns-clause-mails : goal.returns-clause-mails
returns-clause-mails c = mail_permits

pub returns-clause-ends : goal.returns-clause-ends
returns-clause-ends c = end_permits

pub returns-clause-ticks : goal.returns-clause-ticks
returns-clause-ticks c = λ v reading. kill_permits (after_slots v.machine v.settings v.slots reading (no_ticks v.offers)).killed

pub returns-clause-boots : goal.returns-clause-boots
returns-clause-boots c = λ v reading. refl
