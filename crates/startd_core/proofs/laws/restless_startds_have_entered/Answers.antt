use Rattle.startd_core.proofs.Entering.{tick_enters, mail_enters, end_enters}
use Rattle.startd_core.proofs.laws.restless_startds_have_entered.Goals as goal

pub returns-clause-ticks : goal.returns-clause-ticks
returns-clause-ticks c = tick_enters

pub returns-clause-mails : goal.returns-clause-mails
returns-clause-mails c = mail_enters

pub returns-clause-ends : goal.returns-clause-ends
returns-clause-ends c = end_enters
