use Rattle.pool_master.proofs.UserLogs.{same_log}
use Rattle.pool_master.proofs.laws.user_log_is_determined.Goals as goal

pub returns : goal.returns
returns c = λ history one other. same_log history.opening history.list one other
