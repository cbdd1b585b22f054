use Rattle.startd_slot.proofs.MoveMails.{mail_changes, mail_may, ending_changes, ending_may}
use Rattle.startd_slot.proofs.laws.reactions_are_moves.Goals as goal

pub returns-clause-mails : goal.returns-clause-mails
returns-clause-mails c = mail_changes

pub returns-clause-mails_may : goal.returns-clause-mails_may
returns-clause-mails_may c = mail_may

pub returns-clause-ends : goal.returns-clause-ends
returns-clause-ends c = ending_changes

pub returns-clause-ends_may : goal.returns-clause-ends_may
returns-clause-ends_may c = ending_may
