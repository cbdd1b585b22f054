use Rattle.schedd_core.specs.Checks.{after_check}
use Rattle.schedd_core.specs.Rows.{after_mail}
use Rattle.schedd_core.proofs.LostPlans.{reopens_as, mail_as, tick_as, check_as}
use Rattle.schedd_core.proofs.laws.lost_plans_leave_nothing.Goals as goal

pub returns-clause-mails : goal.returns-clause-mails
returns-clause-mails c = λ q v new mail reading later none back. reopens_as q later v (after_mail v q mail reading).schedd new none (mail_as q v none mail reading) back

pub returns-clause-ticks : goal.returns-clause-ticks
returns-clause-ticks c = λ q v after new step reading later none ticked back. reopens_as q later v after new none (tick_as q v none reading after step ticked) back

pub returns-clause-checks : goal.returns-clause-checks
returns-clause-checks c = λ q v new job reading later none back. reopens_as q later v (after_check v q job reading).schedd new none (check_as q v none job reading) back
