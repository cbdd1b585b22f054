use Rattle.pool_rules.proofs.Bringing.{brings_jobs}
use Rattle.pool_rules.proofs.linked_schedd.jobs_are_brought.Goals as goal

pub returns : goal.returns
returns c = brings_jobs
