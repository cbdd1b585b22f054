use Rattle.schedd_core.proofs.EventMay.{mail_may, tick_may, check_may}
use Rattle.schedd_core.proofs.laws.plans_are_moves.Goals as goal

pub returns-clause-mails : goal.returns-clause-mails
returns-clause-mails c = λ p q v mail reading part fit idle heard. mail_may p q v part fit idle mail reading heard

pub returns-clause-ticks : goal.returns-clause-ticks
returns-clause-ticks c = λ p q v new step reading part fit idle now ticked. tick_may p q v part fit idle reading new step now ticked

pub returns-clause-checks : goal.returns-clause-checks
returns-clause-checks c = λ p q v job reading part fit idle. check_may p q v part fit idle job reading
