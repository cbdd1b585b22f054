-- What becomes of a job whose run has ended, by how it ended and by the job's JobStatus (HTCondor
-- manual, condor_submit, on_exit_hold and on_exit_remove).
use Rattle.std.specs.Prelude.{ℕ, Bool, true, false, Option, Some, None, List, [], if◌then◌else◌}
use Rattle.ad_value.specs.declared.names.job.TheConstants.{ON_EXIT_HOLD, ON_EXIT_REMOVE}
use Rattle.ad_value.specs.declared.names.pool.TheConstants.{EXIT_BY_SIGNAL, EXIT_CODE, EXIT_SIGNAL}
use Rattle.ad_tree.specs.Tree.{Tree}
use Rattle.ad_tree.specs.Ad.{Attributes, lookup, with_attribute}
use Rattle.ad_eval.specs.Match.{holds_as}
use Rattle.ad_eval.specs.Mean.{attribute_value}
use Rattle.claim_id.specs.declared.numbers.JobId.{JobId}
use Rattle.pool_mail.specs.declared.end.How.{How}
use Rattle.pool_mail.specs.declared.end.How.TheVariants as how
use Rattle.schedd_plan.specs.declared.plan.Completion.{Completion}
use Rattle.schedd_plan.specs.declared.plan.Completion.TheVariants.{Exited, Signalled}
use Rattle.schedd_plan.specs.declared.plan.JobPlan.{JobPlan}
use Rattle.schedd_plan.specs.declared.plan.JobPlan.TheVariants.{PutIdle, PutHeld, Complete, Remove}
use Rattle.schedd_plan.specs.declared.reason.Reason.TheVariants.{ByPolicy, FailedToStart}
use Rattle.schedd_plan.specs.declared.status.JobStatus.{JobStatus}
use Rattle.schedd_plan.specs.declared.status.JobStatus.TheVariants as status
use Rattle.schedd_plan.specs.Plans.{truth_literal, whole_literal}
use Rattle.schedd_plan.specs.JobAttributes.{status_of}
use Rattle.schedd_plan.specs.JobPlaces.{let_go_ad}

-- an expression of the job's holds, by its own ad
abbrev pub is_asked_by : Attributes → ℕ → List ℕ → Bool
is_asked_by ad reading name = holds_as (attribute_value ad [] reading name)

-- ---- Exited, Signalled
-- the ad with how the program came to its end
abbrev pub ad_after_exit : Completion → Attributes → Attributes
ad_after_exit (Exited code) ad = with_attribute EXIT_CODE.now (whole_literal code)
    (with_attribute EXIT_BY_SIGNAL.now (truth_literal false) ad)
ad_after_exit (Signalled signal) ad = with_attribute EXIT_SIGNAL.now (whole_literal signal)
    (with_attribute EXIT_BY_SIGNAL.now (truth_literal true) ad)

abbrev pub remove_asked_by : Option Tree → Attributes → ℕ → Bool
remove_asked_by None ad reading = true
remove_asked_by (Some e) ad reading = is_asked_by ad reading ON_EXIT_REMOVE.now

-- OnExitRemove holds, or is absent
abbrev pub is_remove_asked : Attributes → ℕ → Bool
is_remove_asked ad reading = remove_asked_by (lookup ON_EXIT_REMOVE.now ad) ad reading

abbrev pub plan_by_policy : JobId → Attributes → Completion → ℕ → JobPlan
plan_by_policy job after completion reading =
    if is_asked_by after reading ON_EXIT_HOLD.now then PutHeld job ByPolicy
    else (if is_remove_asked after reading then Complete job completion else PutIdle job)

abbrev pub plan_at_end : JobId → Attributes → Completion → ℕ → JobPlan
plan_at_end job ad completion reading =
    plan_by_policy job (ad_after_exit completion ad) completion reading

abbrev pub completed_plan : JobStatus → JobId → Attributes → Completion → ℕ → JobPlan
completed_plan status.Idle job ad completion reading = plan_at_end job ad completion reading
completed_plan status.Running job ad completion reading = plan_at_end job ad completion reading
completed_plan status.Removed job ad completion reading = Remove job
completed_plan status.Completed job ad completion reading = plan_at_end job ad completion reading
completed_plan status.Held job ad completion reading = Complete job completion
completed_plan status.Other job ad completion reading = plan_at_end job ad completion reading

-- ---- NotStarted, Evicted, Stopped
abbrev pub unmarked_plan : JobId → How → JobPlan
unmarked_plan job (how.Exited code) = PutIdle job
unmarked_plan job (how.Signalled signal) = PutIdle job
unmarked_plan job how.NotStarted = PutHeld job FailedToStart
unmarked_plan job how.Evicted = PutIdle job
unmarked_plan job how.Stopped = PutIdle job

abbrev pub failed_plan : JobStatus → JobId → Attributes → How → JobPlan
failed_plan status.Idle job ad h = unmarked_plan job h
failed_plan status.Running job ad h = unmarked_plan job h
failed_plan status.Removed job ad h = let_go_ad job ad
failed_plan status.Completed job ad h = unmarked_plan job h
failed_plan status.Held job ad h = let_go_ad job ad
failed_plan status.Other job ad h = unmarked_plan job h

-- ---- any end
abbrev pub completion_of : How → Option Completion
completion_of (how.Exited code) = Some (Exited code)
completion_of (how.Signalled signal) = Some (Signalled signal)
completion_of how.NotStarted = None
completion_of how.Evicted = None
completion_of how.Stopped = None

abbrev pub plan_of_end : Option Completion → JobId → Attributes → How → ℕ → JobPlan
plan_of_end None job ad h reading = failed_plan (status_of ad) job ad h
plan_of_end (Some completion) job ad h reading =
    completed_plan (status_of ad) job ad completion reading

unfoldable pub ended_ad_plan : JobId → Attributes → How → ℕ → JobPlan
ended_ad_plan job ad h reading = plan_of_end (completion_of h) job ad h reading
