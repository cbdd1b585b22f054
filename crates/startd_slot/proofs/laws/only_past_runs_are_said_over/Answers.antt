use Rattle.startd_slot.proofs.NamedRows.{mail_names, end_names}
use Rattle.startd_slot.proofs.OverRows.{mail_over, end_over}
use Rattle.startd_slot.proofs.laws.only_past_runs_are_said_over.Goals as goal

pub returns-clause-mails : goal.returns-clause-mails
returns-clause-mails c = mail_over

pub returns-clause-ends : goal.returns-clause-ends
returns-clause-ends c = λ boot slot ending reading here consistent. end_over boot slot.id slot.state ending reading here consistent

pub returns-clause-mails_named : goal.returns-clause-mails_named
returns-clause-mails_named c = mail_names

pub returns-clause-ends_named : goal.returns-clause-ends_named
returns-clause-ends_named c = end_names
