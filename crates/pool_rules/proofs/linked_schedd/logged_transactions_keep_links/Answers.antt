use Rattle.std.proofs.Common.{subst}
use Rattle.pool_rules.specs.Linked.{Awaits}
use Rattle.pool_rules.proofs.LinkedLogged.{plan_logged}
use Rattle.pool_rules.proofs.Submitting.{jobs_logged}
use Rattle.pool_rules.proofs.linked_schedd.logged_transactions_keep_links.Goals as goal

pub returns-clause-plans : goal.returns-clause-plans
returns-clause-plans c = λ p a plan new finished linked is h f. plan_logged p a plan new finished linked (subst (Awaits p a) is linked.awaited) h f

pub returns-clause-jobs : goal.returns-clause-jobs
returns-clause-jobs c = λ p a ids tx new linked is h. (let w = subst (Awaits p a) is linked.awaited in (w.jobs, w.named, jobs_logged p a ids tx new linked w h))
