-- The changes of the protocol that plans are, and the moves that events are.
use Rattle.std.specs.Prelude.{ℕ, List, [], ◌∷◌, Option, Some, None}
use Rattle.ad_tree.specs.Ad.{Attributes}
use Rattle.claim_id.specs.declared.numbers.JobId.{JobId}
use Rattle.claim_id.specs.declared.numbers.RunNo.{RunNo}
use Rattle.pool_mail.specs.declared.end.How.{How}
use Rattle.pool_mail.specs.declared.end.How.TheVariants as how
use Rattle.pool_mail.specs.declared.mail.Mail.{Mail}
use Rattle.pool_mail.specs.declared.mail.Mail.TheVariants as mail
use Rattle.pool_view.specs.Protocol.{Change, Hidden, OfJob, Removal}
use Rattle.pool_view.specs.ProtocolMove.{ProtocolMove, Pend, Commit, TakeOrder, SendLease}
use Rattle.pool_view.specs.AbstractStep.{Grant, Free, Finish, Hold, Release, Lengthen}
use Rattle.pool_view.specs.Ads.{core_of}
use Rattle.pool_view.specs.declared.job.Entry.{Entry}
use Rattle.pool_view.specs.declared.job.Outcome.TheVariants.{EndedBy, Removed}
use Rattle.pool_view.specs.declared.job.State.{State}
use Rattle.pool_view.specs.declared.job.State.TheVariants as state
use Rattle.queue_tx.specs.declared.key.Key.TheVariants.{Proc}
use Rattle.queue_tx.specs.Queues.{KeyedAds, ad_at}
use Rattle.schedd_plan.specs.declared.plan.Completion.{Completion}
use Rattle.schedd_plan.specs.declared.plan.Completion.TheVariants.{Exited, Signalled}
use Rattle.schedd_plan.specs.declared.plan.JobPlan.{JobPlan}
use Rattle.schedd_plan.specs.declared.plan.JobPlan.TheVariants as plan
use Rattle.schedd_plan.specs.Plans.{job_of}
use Rattle.schedd_core.specs.Logging.{numbered, run_of_job}
use Rattle.schedd_core.specs.Rows.{after_mail}
use Rattle.schedd_state.specs.Schedds.{ScheddValue}

abbrev pub Jobs : Type 0
Jobs = JobId → Option Entry

-- ---- the change that a plan is, by how its job stands
abbrev pub how_of : Completion → How
how_of (Exited code) = how.Exited code
how_of (Signalled signal) = how.Signalled signal

-- a held job is released, any other is let go
abbrev pub idle_change : JobId → State → Change
idle_change job state.Idle = OfJob (Free job state.Idle)
idle_change job state.Held = OfJob (Release job)
idle_change job (state.Under run end) = OfJob (Free job state.Idle)
idle_change job state.Left = OfJob (Free job state.Idle)
idle_change job (state.Done outcome) = OfJob (Free job state.Idle)

-- an idle job is held, any other is let go
abbrev pub held_change : JobId → State → Change
held_change job state.Idle = OfJob (Hold job)
held_change job state.Held = OfJob (Free job state.Held)
held_change job (state.Under run end) = OfJob (Free job state.Held)
held_change job state.Left = OfJob (Free job state.Held)
held_change job (state.Done outcome) = OfJob (Free job state.Held)

-- the job's run has ended
abbrev pub complete_change : JobId → Completion → State → Change
complete_change job completion state.Idle = Hidden
complete_change job completion state.Held = Hidden
complete_change job completion (state.Under run end) =
    OfJob (Finish job (EndedBy run (how_of completion)))
complete_change job completion state.Left = Hidden
complete_change job completion (state.Done outcome) = Hidden

abbrev pub change_at : State → JobPlan → Change
change_at s (plan.PutIdle job) = idle_change job s
change_at s (plan.PutHeld job reason) = held_change job s
change_at s (plan.Complete job completion) = complete_change job completion s
change_at s (plan.Remove job) = OfJob (Finish job Removed)
change_at s (plan.MarkRemoved job) = Removal job
change_at s (plan.MarkHeld job reason) = Hidden
change_at s (plan.MarkRunning job) = Hidden
change_at s (plan.Lengthen job until) = OfJob (Lengthen job until)
change_at s (plan.Grant job claim number until header) =
    OfJob (Grant job (numbered claim number) until)

abbrev pub change_by : Option Entry → JobPlan → Change
change_by None p = Hidden
change_by (Some e) p = change_at e.state p

abbrev pub change_of : Jobs → JobPlan → Change
change_of jobs p = change_by (jobs (job_of p)) p

-- ---- the moves that an event is
abbrev pub pends : Jobs → Option JobPlan → List ProtocolMove
pends jobs None = []
pends jobs (Some p) = Pend (change_of jobs p) ∷ []

-- a removal is an order first
abbrev pub order_moves : Jobs → JobPlan → List ProtocolMove
order_moves jobs (plan.Remove job) =
    TakeOrder job ∷ Pend (change_of jobs (plan.Remove job)) ∷ []
order_moves jobs (plan.MarkRemoved job) =
    TakeOrder job ∷ Pend (change_of jobs (plan.MarkRemoved job)) ∷ []
order_moves jobs p = Pend (change_of jobs p) ∷ []

abbrev pub moves_of_order : Jobs → Option JobPlan → List ProtocolMove
moves_of_order jobs None = []
moves_of_order jobs (Some p) = order_moves jobs p

abbrev pub moves_of_mail : Jobs → ScheddValue → KeyedAds → Mail → ℕ → List ProtocolMove
moves_of_mail jobs v q (mail.Remove job) reading =
    moves_of_order jobs (after_mail v q (mail.Remove job) reading).step.plan
moves_of_mail jobs v q m reading = pends jobs (after_mail v q m reading).step.plan

-- ---- the moves that a plan is once it is logged, with the queue that came of it
-- the run is told of its lease
abbrev pub lease_moves : Option RunNo → Option Attributes → JobId → ℕ → List ProtocolMove
lease_moves None ad job until = []
lease_moves (Some run) None job until = []
lease_moves (Some run) (Some ad) job until =
    SendLease (record { run = run; job = job; core = core_of ad; until = until }) ∷ []

unfoldable pub told_leases : ScheddValue → KeyedAds → JobPlan → List ProtocolMove
told_leases v q (plan.Lengthen job until) =
    lease_moves (run_of_job v.runs job) (ad_at (Proc job) q) job until
told_leases v q (plan.Grant job claim number until header) =
    lease_moves (Some (numbered claim number)) (ad_at (Proc job) q) job until
told_leases v q (plan.PutIdle job) = []
told_leases v q (plan.PutHeld job reason) = []
told_leases v q (plan.Complete job completion) = []
told_leases v q (plan.Remove job) = []
told_leases v q (plan.MarkRemoved job) = []
told_leases v q (plan.MarkHeld job reason) = []
told_leases v q (plan.MarkRunning job) = []

abbrev pub moves_of_logged : ScheddValue → KeyedAds → JobPlan → List ProtocolMove
moves_of_logged v q p = Commit ∷ told_leases v q p
