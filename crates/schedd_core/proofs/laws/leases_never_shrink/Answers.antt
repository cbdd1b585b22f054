use Rattle.schedd_core.proofs.LeasesGrow.{mail_grows, tick_grows, check_grows}
use Rattle.schedd_core.proofs.laws.leases_never_shrink.Goals as goal

pub returns-clause-mails : goal.returns-clause-mails
returns-clause-mails c = λ q new v mail reading fit. mail_grows q v fit new mail reading

pub returns-clause-ticks : goal.returns-clause-ticks
returns-clause-ticks c = λ q new v after step reading fit ticked. tick_grows q v fit new reading after step ticked

pub returns-clause-checks : goal.returns-clause-checks
returns-clause-checks c = λ q new v job reading fit. check_grows q v fit new job reading
