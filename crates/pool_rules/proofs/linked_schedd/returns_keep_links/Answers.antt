use Rattle.std.proofs.Common.{subst}
use Rattle.pool_rules.specs.Linked.{Awaits}
use Rattle.pool_rules.proofs.Returning.{jobs_kept, nothing_kept, plan_kept}
use Rattle.pool_rules.proofs.linked_schedd.returns_keep_links.Goals as goal

pub returns-clause-plans : goal.returns-clause-plans
returns-clause-plans c = λ read reads p a plan new finished back reading linked is h f reopen. plan_kept read reads p a plan new finished back reading linked (subst (Awaits p a) is linked.awaited) h f reopen

pub returns-clause-jobs : goal.returns-clause-jobs
returns-clause-jobs c = λ read reads p a ids tx new back reading linked is h reopen. jobs_kept read reads p a ids tx new back reading linked (subst (Awaits p a) is linked.awaited) h reopen

pub returns-clause-nothing : goal.returns-clause-nothing
returns-clause-nothing c = nothing_kept
