use Rattle.std.proofs.Common.{subst}
use Rattle.pool_rules.specs.Linked.{Awaits}
use Rattle.pool_rules.proofs.Completing.{run_is_named}
use Rattle.pool_rules.proofs.linked_schedd.completed_jobs_name_runs.Goals as goal

pub returns : goal.returns
returns c = λ p a job completion linked is. run_is_named p a job completion linked (subst (Awaits p a) is linked.awaited)
