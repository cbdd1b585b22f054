use Rattle.startd_core.proofs.SaidOver.{mail_says_over, end_says_over, tick_says_over, reboot_says_over}
use Rattle.startd_core.proofs.laws.only_past_runs_are_said_over.Goals as goal

pub returns-clause-mails : goal.returns-clause-mails
returns-clause-mails c = mail_says_over

pub returns-clause-ends : goal.returns-clause-ends
returns-clause-ends c = end_says_over

pub returns-clause-ticks : goal.returns-clause-ticks
returns-clause-ticks c = tick_says_over

pub returns-clause-boots : goal.returns-clause-boots
returns-clause-boots c = reboot_says_over
