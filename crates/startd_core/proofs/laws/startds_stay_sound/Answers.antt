use Rattle.startd_core.proofs.Stays.{new_stays, slot_stays, mail_stays, end_stays, tick_stays, reboot_stays}
use Rattle.startd_core.proofs.laws.startds_stay_sound.Goals as goal

pub returns-clause-new : goal.returns-clause-new
returns-clause-new c = new_stays

pub returns-clause-slots : goal.returns-clause-slots
returns-clause-slots c = slot_stays

pub returns-clause-mails : goal.returns-clause-mails
returns-clause-mails c = mail_stays

pub returns-clause-ends : goal.returns-clause-ends
returns-clause-ends c = end_stays

pub returns-clause-ticks : goal.returns-clause-ticks
returns-clause-ticks c = tick_stays

pub returns-clause-boots : goal.returns-clause-boots
returns-clause-boots c = reboot_stays
