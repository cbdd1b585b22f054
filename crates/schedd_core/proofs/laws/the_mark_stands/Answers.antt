use Rattle.queue_tx.specs.declared.key.Key.TheVariants.{Proc}
use Rattle.schedd_core.specs.Checks.{after_check}
use Rattle.schedd_core.specs.Rows.{after_mail}
use Rattle.schedd_core.proofs.LostPlans.{mail_as, tick_as, check_as}
use Rattle.schedd_core.proofs.Marks.{opened_passed, reopened_passed, going_passed, moved_passed, logged_passed, new_passed}
use Rattle.schedd_core.proofs.laws.the_mark_stands.Goals as goal

pub returns-clause-openings : goal.returns-clause-openings
returns-clause-openings c = opened_passed

pub returns-clause-reopenings : goal.returns-clause-reopenings
returns-clause-reopenings c = reopened_passed

pub returns-clause-mails : goal.returns-clause-mails
returns-clause-mails c = λ q v mail reading none to. let like = mail_as q v none mail reading in going_passed q v (after_mail v q mail reading).schedd like.looks to

pub returns-clause-ticks : goal.returns-clause-ticks
returns-clause-ticks c = λ q v new step reading none ticked to. let like = tick_as q v none reading new step ticked in going_passed q v new like.looks to

pub returns-clause-checks : goal.returns-clause-checks
returns-clause-checks c = λ q v job reading none to. let like = check_as q v none job reading in going_passed q v (after_check v q job reading).schedd like.looks to

pub returns-clause-marks : goal.returns-clause-marks
returns-clause-marks c = moved_passed

pub returns-clause-logged : goal.returns-clause-logged
returns-clause-logged c = λ q new v plan ordered fits h to. logged_passed q new v plan ordered fits h to

pub returns-clause-submissions : goal.returns-clause-submissions
returns-clause-submissions c = λ q new v first old to. new_passed q new v (Proc first) old to
