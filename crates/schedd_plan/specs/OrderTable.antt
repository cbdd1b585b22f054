-- What a user, or an expression of the job's own, wants of a job (HTCondor manual, condor_rm,
-- condor_hold, condor_release): what is to be logged, by where the job stands.
use Rattle.std.specs.Prelude.{Bool, true, false, Option, Some, None}
use Rattle.claim_id.specs.declared.numbers.JobId.{JobId}
use Rattle.schedd_plan.specs.declared.plan.JobPlan.{JobPlan}
use Rattle.schedd_plan.specs.declared.plan.JobPlan.TheVariants.{PutIdle, PutHeld, Remove, MarkRemoved, MarkHeld, MarkRunning}
use Rattle.schedd_plan.specs.declared.reason.Reason.{Reason}
use Rattle.schedd_plan.specs.declared.status.JobStatus.{JobStatus}
use Rattle.schedd_plan.specs.declared.status.JobStatus.TheVariants as status
use Rattle.schedd_plan.specs.declared.places.JobPlace.{JobPlace}
use Rattle.schedd_plan.specs.declared.places.JobPlace.TheVariants.{Nowhere, Idle, Held, Left, Under}

-- ---- Remove
abbrev pub remove_plan : JobPlace → JobId → Option JobPlan
remove_plan Nowhere job = None
remove_plan Idle job = Some (Remove job)
remove_plan Held job = Some (Remove job)
remove_plan (Left st) job = Some (Remove job)
remove_plan (Under st) job = Some (MarkRemoved job)

-- ---- Hold
-- a job that an earlier boot left, with JobStatus 1 or 2
abbrev pub hold_left : JobStatus → JobId → Reason → Option JobPlan
hold_left status.Idle job reason = Some (MarkHeld job reason)
hold_left status.Running job reason = Some (MarkHeld job reason)
hold_left status.Removed job reason = None
hold_left status.Completed job reason = None
hold_left status.Held job reason = None
hold_left status.Other job reason = None

-- a job under a run, with JobStatus 2
abbrev pub hold_under : JobStatus → JobId → Reason → Option JobPlan
hold_under status.Idle job reason = None
hold_under status.Running job reason = Some (MarkHeld job reason)
hold_under status.Removed job reason = None
hold_under status.Completed job reason = None
hold_under status.Held job reason = None
hold_under status.Other job reason = None

abbrev pub hold_plan : JobPlace → JobId → Reason → Option JobPlan
hold_plan Nowhere job reason = None
hold_plan Idle job reason = Some (PutHeld job reason)
hold_plan Held job reason = None
hold_plan (Left st) job reason = hold_left st job reason
hold_plan (Under st) job reason = hold_under st job reason

-- ---- Resume
abbrev pub resume_marked : JobStatus → JobId → Option JobPlan
resume_marked status.Idle job = None
resume_marked status.Running job = None
resume_marked status.Removed job = None
resume_marked status.Completed job = None
resume_marked status.Held job = Some (MarkRunning job)
resume_marked status.Other job = None

abbrev pub resume_plan : JobPlace → JobId → Option JobPlan
resume_plan Nowhere job = None
resume_plan Idle job = None
resume_plan Held job = Some (PutIdle job)
resume_plan (Left st) job = resume_marked st job
resume_plan (Under st) job = resume_marked st job

-- ---- which periodic expressions are asked
abbrev pub left_can_be_held : JobStatus → Bool
left_can_be_held status.Idle = true
left_can_be_held status.Running = true
left_can_be_held status.Removed = false
left_can_be_held status.Completed = false
left_can_be_held status.Held = false
left_can_be_held status.Other = false

abbrev pub is_running : JobStatus → Bool
is_running status.Idle = false
is_running status.Running = true
is_running status.Removed = false
is_running status.Completed = false
is_running status.Held = false
is_running status.Other = false

-- PeriodicHold of a job that an order to hold does something with
abbrev pub can_be_held : JobPlace → Bool
can_be_held Nowhere = false
can_be_held Idle = true
can_be_held Held = false
can_be_held (Left st) = left_can_be_held st
can_be_held (Under st) = is_running st

-- PeriodicRelease of a held job
abbrev pub is_waiting : JobPlace → Bool
is_waiting Nowhere = false
is_waiting Idle = false
is_waiting Held = true
is_waiting (Left st) = false
is_waiting (Under st) = false
