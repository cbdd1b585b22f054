use Rattle.std.proofs.Common.{refl, sym, subst}
use Rattle.pool_view.specs.Protocol.{change_steps, view_after_all}
use Rattle.schedd_core.specs.JobStates.{ShowsJobs}
use Rattle.schedd_core.specs.PlanChanges.{change_of}
use Rattle.schedd_core.proofs.LoggedMails.{logged_may, logged_part, mails_leased}
use Rattle.schedd_core.proofs.LoggedMay.{left_is}
use Rattle.schedd_core.proofs.PlanJobs.{jobs_after_plan}
use Rattle.schedd_core.proofs.laws.logged_plans_are_their_changes.Goals as goal

pub returns-clause-jobs : goal.returns-clause-jobs
returns-clause-jobs c = λ pool q new v plan ordered shows fits h.
    subst (λ l. ShowsJobs new l (view_after_all pool (change_steps (change_of pool.jobs plan))).jobs) (sym (left_is plan v)) (jobs_after_plan pool q new v.left ordered shows plan fits h)

pub returns-clause-may : goal.returns-clause-may
returns-clause-may c = λ p q new v plan facts part ordered fits pending h fit. logged_may p q new v plan part ordered fits h fit facts pending

pub returns-clause-part : goal.returns-clause-part
returns-clause-part c = λ p q new v plan facts part ordered fits pending h fit. logged_part p q new v plan part ordered fits h fit facts pending

pub returns-clause-leased : goal.returns-clause-leased
returns-clause-leased c = λ p q new v plan mail facts part ordered fits pending h fit there. mails_leased p q new v plan part ordered fits h fit facts pending plan refl mail there
