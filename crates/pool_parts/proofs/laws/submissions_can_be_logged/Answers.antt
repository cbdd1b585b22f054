use Rattle.pool_parts.proofs.Submitting.{submission_logs, submitted_are_loggable}
use Rattle.pool_parts.proofs.laws.submissions_can_be_logged.Goals as goal

pub returns-clause-transactions : goal.returns-clause-transactions
returns-clause-transactions c = submission_logs

pub returns-clause-files : goal.returns-clause-files
returns-clause-files c = submitted_are_loggable
