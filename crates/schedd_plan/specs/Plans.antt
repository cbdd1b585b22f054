-- The transactions that are made of plans.
use Rattle.std.specs.Prelude.{ℕ, ℤ, ◌+◌, Bool, true, false, List, [], ◌∷◌, ◌++◌}
use Rattle.ad_value.specs.Content.{truth}
use Rattle.ad_value.specs.declared.names.job.TheConstants.{JOB_STATUS}
use Rattle.ad_value.specs.declared.names.pool.TheConstants.{HOLD_REASON, EXIT_BY_SIGNAL, EXIT_CODE, EXIT_SIGNAL, RUN_CLAIM, RUN_NUMBER, LEASE_UNTIL}
use Rattle.ad_tree.specs.Tree.{Tree, literal}
use Rattle.ad_tree.specs.ValueTree.{integer_tree}
use Rattle.ad_rows.specs.Rows.{integer_literal, text_literal}
use Rattle.claim_id.specs.declared.numbers.ClaimId.{ClaimId}
use Rattle.claim_id.specs.declared.numbers.JobId.{JobId}
use Rattle.claim_id.specs.Texts.{claim_text}
use Rattle.queue_tx.specs.declared.key.Key.TheVariants.{Header, Proc}
use Rattle.queue_tx.specs.declared.names.TheConstants.{NEXT_RUN_NUM}
use Rattle.queue_tx.specs.Operations.{Operation, new_ad, destroy_ad, set_attr, delete_attr}
use Rattle.schedd_plan.specs.declared.plan.Completion.{Completion}
use Rattle.schedd_plan.specs.declared.plan.Completion.TheVariants.{Exited, Signalled}
use Rattle.schedd_plan.specs.declared.plan.JobPlan.{JobPlan}
use Rattle.schedd_plan.specs.declared.plan.JobPlan.TheVariants as plan
use Rattle.schedd_plan.specs.declared.plan.TheConstants.{HEADER_KIND, HEADER_OTHER}
use Rattle.schedd_plan.specs.declared.reason.Reason.{Reason}
use Rattle.schedd_plan.specs.JobAttributes.{reason_text}

abbrev pub truth_literal : Bool → Tree
truth_literal b = literal (truth b)

-- a number that may be negative
abbrev pub whole_literal : ℤ → Tree
whole_literal n = integer_tree n

abbrev pub job_of : JobPlan → JobId
job_of (plan.PutIdle job) = job
job_of (plan.PutHeld job reason) = job
job_of (plan.Complete job completion) = job
job_of (plan.Remove job) = job
job_of (plan.MarkRemoved job) = job
job_of (plan.MarkHeld job reason) = job
job_of (plan.MarkRunning job) = job
job_of (plan.Lengthen job until) = job
job_of (plan.Grant job claim number until header) = job

-- ---- what several plans set
abbrev pub status_op : JobId → ℕ → Operation
status_op job status = set_attr (Proc job) JOB_STATUS.now (integer_literal status)

-- under no claim
abbrev pub without_run : JobId → List Operation
without_run job =
    delete_attr (Proc job) RUN_CLAIM.now
    ∷ delete_attr (Proc job) RUN_NUMBER.now
    ∷ delete_attr (Proc job) LEASE_UNTIL.now
    ∷ []

-- ---- each plan's
abbrev pub idle_ops : JobId → List Operation
idle_ops job = status_op job 1 ∷ without_run job

abbrev pub mark_held_ops : JobId → Reason → List Operation
mark_held_ops job reason =
    status_op job 5
    ∷ set_attr (Proc job) HOLD_REASON.now (text_literal (reason_text reason))
    ∷ []

abbrev pub held_ops : JobId → Reason → List Operation
held_ops job reason = mark_held_ops job reason ++ without_run job

abbrev pub exit_ops : JobId → Completion → List Operation
exit_ops job (Exited code) =
    set_attr (Proc job) EXIT_BY_SIGNAL.now (truth_literal false)
    ∷ set_attr (Proc job) EXIT_CODE.now (whole_literal code)
    ∷ []
exit_ops job (Signalled signal) =
    set_attr (Proc job) EXIT_BY_SIGNAL.now (truth_literal true)
    ∷ set_attr (Proc job) EXIT_SIGNAL.now (whole_literal signal)
    ∷ []

abbrev pub complete_ops : JobId → Completion → List Operation
complete_ops job completion =
    status_op job 4 ∷ (exit_ops job completion ++ destroy_ad (Proc job) ∷ [])

abbrev pub remove_ops : JobId → List Operation
remove_ops job = status_op job 3 ∷ destroy_ad (Proc job) ∷ []

abbrev pub lease_ops : JobId → ℕ → List Operation
lease_ops job until = set_attr (Proc job) LEASE_UNTIL.now (integer_literal until) ∷ []

abbrev pub run_ops : JobId → ClaimId → ℕ → ℕ → List Operation
run_ops job claim number until =
    status_op job 2
    ∷ set_attr (Proc job) RUN_CLAIM.now (text_literal (claim_text claim))
    ∷ set_attr (Proc job) RUN_NUMBER.now (integer_literal number)
    ∷ lease_ops job until

-- the number of the run that is granted next
abbrev pub next_run_ops : ℕ → List Operation
next_run_ops number =
    set_attr Header NEXT_RUN_NUM.now (integer_literal (number + 1)) ∷ []

abbrev pub header_op : Operation
header_op = new_ad Header HEADER_KIND.now HEADER_OTHER.now

-- a header that isn't there is made before all else
abbrev pub grant_ops : JobId → ClaimId → ℕ → ℕ → Bool → List Operation
grant_ops job claim number until true = run_ops job claim number until ++ next_run_ops number
grant_ops job claim number until false =
    header_op ∷ (next_run_ops number ++ run_ops job claim number until)

unfoldable pub plan_ops : JobPlan → List Operation
plan_ops (plan.PutIdle job) = idle_ops job
plan_ops (plan.PutHeld job reason) = held_ops job reason
plan_ops (plan.Complete job completion) = complete_ops job completion
plan_ops (plan.Remove job) = remove_ops job
plan_ops (plan.MarkRemoved job) = status_op job 3 ∷ []
plan_ops (plan.MarkHeld job reason) = mark_held_ops job reason
plan_ops (plan.MarkRunning job) = status_op job 2 ∷ []
plan_ops (plan.Lengthen job until) = lease_ops job until
plan_ops (plan.Grant job claim number until header) = grant_ops job claim number until header
