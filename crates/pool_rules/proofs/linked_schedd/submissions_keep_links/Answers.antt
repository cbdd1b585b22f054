use Rattle.pool_rules.proofs.Submitting.{jobs_submitted}
use Rattle.pool_rules.proofs.linked_schedd.submissions_keep_links.Goals as goal

pub returns : goal.returns
returns c = jobs_submitted
