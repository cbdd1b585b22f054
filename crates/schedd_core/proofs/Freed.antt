-- The plans that take a job from its run, or out of the queue.
use Rattle.std.proofs.Common.{◌≡◌, ℕ, Bool, true, false, cond, Option, Some, None, refl, ap, sym, ◌∙◌, subst}
use Rattle.ad_tree.specs.Ad.{Attributes}
use Rattle.claim_id.specs.declared.numbers.JobId.{JobId}
use Rattle.pool_mail.specs.declared.end.How.{How}
use Rattle.pool_mail.specs.declared.end.How.TheVariants as how
use Rattle.queue_tx.specs.declared.key.Key.TheVariants.{Proc}
use Rattle.queue_tx.specs.Queues.{KeyedAds, ad_at}
use Rattle.ad_value.specs.declared.names.job.TheConstants.{ON_EXIT_HOLD}
use Rattle.schedd_plan.specs.declared.plan.Completion.{Completion}
use Rattle.schedd_plan.specs.declared.plan.JobPlan.{JobPlan}
use Rattle.schedd_plan.specs.declared.plan.JobPlan.TheVariants as plan
use Rattle.schedd_plan.specs.declared.reason.Reason.TheVariants.{ByPolicy}
use Rattle.schedd_plan.specs.declared.status.JobStatus.{JobStatus}
use Rattle.schedd_plan.specs.declared.status.JobStatus.TheVariants as status
use Rattle.schedd_plan.specs.JobAttributes.{status_of}
use Rattle.schedd_plan.specs.EndTable.{is_asked_by, ad_after_exit, is_remove_asked, plan_at_end, completed_plan, unmarked_plan, failed_plan, completion_of, plan_of_end, ended_ad_plan}
use Rattle.schedd_plan.specs.JobPlaces.{is_left, let_go_by, let_go_in, let_go}
use Rattle.schedd_state.specs.Reopening.{is_under_at}
use Rattle.schedd_core.specs.ScheddParts.{IsThere, IsFitting}
use Rattle.schedd_core.proofs.FitsAfter.{Frees}
use Rattle.schedd_core.proofs.PlanJobs.{there_under}

-- ---- one that lets it go
pub let_go_by_frees : (st : JobStatus) (job : JobId) (ad : Attributes) → Frees job (let_go_by st job ad)
let_go_by_frees status.Held job ad = refl
let_go_by_frees status.Removed job ad = refl
let_go_by_frees status.Idle job ad = refl
let_go_by_frees status.Running job ad = refl
let_go_by_frees status.Completed job ad = refl
let_go_by_frees status.Other job ad = refl

pub let_go_frees : (q : KeyedAds) (job : JobId) → Frees job (let_go q job)
let_go_frees q job = by (ad_at (Proc job) q)
  where
    by : (o : Option Attributes) → Frees job (let_go_in o job)
    by None = refl
    by (Some ad) = let_go_by_frees (status_of ad) job ad

let_go_by_fits : (q : KeyedAds) (left : Rattle.std.specs.Prelude.List JobId) (st : JobStatus) (job : JobId) (ad : Attributes) → IsThere q job → IsFitting q left (let_go_by st job ad)
let_go_by_fits q left status.Held job ad there = there
let_go_by_fits q left status.Removed job ad there = there
let_go_by_fits q left status.Idle job ad there = there
let_go_by_fits q left status.Running job ad there = there
let_go_by_fits q left status.Completed job ad there = there
let_go_by_fits q left status.Other job ad there = there

pub let_go_fits : (q : KeyedAds) (left : Rattle.std.specs.Prelude.List JobId) (job : JobId) → IsThere q job → IsFitting q left (let_go q job)
let_go_fits q left job there = by (ad_at (Proc job) q)
  where
    by : (o : Option Attributes) → IsFitting q left (let_go_in o job)
    by None = there
    by (Some ad) = let_go_by_fits q left (status_of ad) job ad there

-- ---- one that the end of its run makes
policy_frees : (job : JobId) (c : Completion) (hold remove : Bool) → Frees job (cond hold (plan.PutHeld job ByPolicy) (cond remove (plan.Complete job c) (plan.PutIdle job)))
policy_frees job c true remove = refl
policy_frees job c false true = refl
policy_frees job c false false = refl

at_end_frees : (job : JobId) (ad : Attributes) (c : Completion) (reading : ℕ) → Frees job (plan_at_end job ad c reading)
at_end_frees job ad c reading = policy_frees job c (is_asked_by (ad_after_exit c ad) reading ON_EXIT_HOLD.now) (is_remove_asked (ad_after_exit c ad) reading)

completed_frees : (st : JobStatus) (job : JobId) (ad : Attributes) (c : Completion) (reading : ℕ) → Frees job (completed_plan st job ad c reading)
completed_frees status.Idle job ad c reading = at_end_frees job ad c reading
completed_frees status.Running job ad c reading = at_end_frees job ad c reading
completed_frees status.Removed job ad c reading = refl
completed_frees status.Completed job ad c reading = at_end_frees job ad c reading
completed_frees status.Held job ad c reading = refl
completed_frees status.Other job ad c reading = at_end_frees job ad c reading

unmarked_frees : (job : JobId) (h : How) → Frees job (unmarked_plan job h)
unmarked_frees job (how.Exited code) = refl
unmarked_frees job (how.Signalled signal) = refl
unmarked_frees job how.NotStarted = refl
unmarked_frees job how.Evicted = refl
unmarked_frees job how.Stopped = refl

failed_frees : (st : JobStatus) (job : JobId) (ad : Attributes) (h : How) → Frees job (failed_plan st job ad h)
failed_frees status.Idle job ad h = unmarked_frees job h
failed_frees status.Running job ad h = unmarked_frees job h
failed_frees status.Removed job ad h = let_go_by_frees (status_of ad) job ad
failed_frees status.Completed job ad h = unmarked_frees job h
failed_frees status.Held job ad h = let_go_by_frees (status_of ad) job ad
failed_frees status.Other job ad h = unmarked_frees job h

pub end_frees : (job : JobId) (ad : Attributes) (h : How) (reading : ℕ) → Frees job (ended_ad_plan job ad h reading)
unfolding ended_ad_plan
end_frees job ad h reading = by (completion_of h)
  where
    by : (o : Option Completion) → Frees job (plan_of_end o job ad h reading)
    by None = failed_frees (status_of ad) job ad h
    by (Some c) = completed_frees (status_of ad) job ad c reading

-- each is of a job that is under its run
pub freed_fits : (q : KeyedAds) (left : Rattle.std.specs.Prelude.List JobId) (k : JobId) (p : JobPlan) → Frees k p → is_under_at q k ≡ true → is_left k left ≡ false → IsFitting q left p
freed_fits q left k (plan.PutIdle job) f under not_left = subst (IsThere q) (sym f) (there_under q k under)
freed_fits q left k (plan.PutHeld job reason) f under not_left = subst (IsThere q) (sym f) (there_under q k under)
freed_fits q left k (plan.Complete job completion) f under not_left = (ap (is_under_at q) f ∙ under, ap (λ j. is_left j left) f ∙ not_left)
freed_fits q left k (plan.Remove job) f under not_left = subst (IsThere q) (sym f) (there_under q k under)
freed_fits q left k (plan.MarkRemoved job) f under not_left = absurd f
freed_fits q left k (plan.MarkHeld job reason) f under not_left = absurd f
freed_fits q left k (plan.MarkRunning job) f under not_left = absurd f
freed_fits q left k (plan.Lengthen job until) f under not_left = absurd f
freed_fits q left k (plan.Grant job claim number until header) f under not_left = absurd f
