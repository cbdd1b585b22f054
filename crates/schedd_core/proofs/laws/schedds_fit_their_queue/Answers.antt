use Rattle.schedd_core.proofs.EventFits.{mail_fits, tick_fits, check_fits}
use Rattle.schedd_core.proofs.OpenFits.{opening_fits}
use Rattle.schedd_core.proofs.laws.schedds_fit_their_queue.Goals as goal

pub returns-clause-openings : goal.returns-clause-openings
returns-clause-openings c = λ q settings v ordered opened. opening_fits q settings v ordered opened

pub returns-clause-mails : goal.returns-clause-mails
returns-clause-mails c = λ q v mail reading fit valid. mail_fits q v fit mail reading valid

pub returns-clause-ticks : goal.returns-clause-ticks
returns-clause-ticks c = λ q v new step reading fit ticked. tick_fits q v fit reading new step ticked

pub returns-clause-checks : goal.returns-clause-checks
returns-clause-checks c = λ q v job reading fit. check_fits q v fit job reading
