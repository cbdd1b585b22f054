-- When the parts of a pool and the protocol of its daemons hold together.
use Rattle.std.specs.Prelude.{◌≡◌, ℕ, List, map, Option, Some, None, Ok, IsSome, IsSomeAnd, IfSome, slice_get}
use Rattle.ad_tree.specs.Ad.{Attributes}
use Rattle.claim_id.specs.declared.numbers.ClaimNo.{ClaimNo}
use Rattle.claim_id.specs.declared.numbers.JobId.{JobId}
use Rattle.claim_id.specs.declared.numbers.RunNo.{RunNo}
use Rattle.claim_id.specs.Texts.{IsClaim}
use Rattle.pool_mail.specs.declared.end.How.{How}
use Rattle.pool_mail.specs.declared.mail.Mail.{Mail}
use Rattle.pool_mail.specs.declared.mail.Mail.TheVariants as mail
use Rattle.pool_view.specs.Facts.{Facts}
use Rattle.pool_view.specs.Protocol.{JobRun, NewJob, Submission, Protocol}
use Rattle.pool_view.specs.ProtocolMove.{ProtocolMove, MayAll, protocol_after_all}
use Rattle.pool_view.specs.SlotPart.{HasParts}
use Rattle.pool_view.specs.AbstractPool.{IsIn, SameMembers}
use Rattle.pool_view.specs.Ads.{core_of}
use Rattle.pool_view.specs.Safe.{Safe}
use Rattle.pool_view.specs.declared.job.Entry.{Entry}
use Rattle.queue_tx.specs.declared.key.Key.TheVariants.{Proc}
use Rattle.queue_tx.specs.declared.kind.JobKind.TheVariants.{Idle}
use Rattle.queue_tx.specs.Kinds.{kind_of}
use Rattle.queue_tx.specs.Operations.{Operation}
use Rattle.queue_tx.specs.Queues.{KeyedAds, ad_at, queue_after}
use Rattle.schedd_plan.specs.declared.plan.JobPlan.{JobPlan}
use Rattle.schedd_plan.specs.declared.plan.JobPlan.TheVariants as plan
use Rattle.schedd_plan.specs.Plans.{plan_ops}
use Rattle.schedd_plan.specs.declared.claims.KeptClaim.{KeptClaim}
use Rattle.schedd_core.specs.Logging.{IsReopened, after_plan}
use Rattle.schedd_core.specs.PlanChanges.{change_of}
use Rattle.schedd_core.specs.ScheddParts.{Fits, IsFitting, IsHeard, IsOrdered, IsPart}
use Rattle.schedd_state.specs.Schedds.{ScheddValue}
use Rattle.startd_slot.specs.declared.held.Held.{Held}
use Rattle.startd_slot.specs.declared.slot.Slot.{Slot}
use Rattle.startd_slot.specs.SlotMoves.{IsTold}
use Rattle.startd_core.specs.Sound.{IsSound}
use Rattle.startd_core.specs.Startds.{StartdValue}
use Rattle.pool_rules.specs.PoolParts.{Awaited, NewJobs, Planned, PoolParts, pool_parts}

-- ---- jobs that have left the queue
-- a job of the queue hasn't left it; one that isn't there stands as it left it, or never was there
abbrev pub IsFinishedAs : Option Attributes → Option Entry → Option Entry → Type 0
IsFinishedAs None finished entry = entry ≡ finished
IsFinishedAs (Some ad) finished entry = finished ≡ None

-- ---- mails
-- the pool has the slot of the claim
abbrev pub IsPlaced : Protocol → ClaimNo → Type 0
IsPlaced p claim = IsSome (p.pool.marks claim.slot)

-- the run was granted
abbrev pub IsGranted : Protocol → RunNo → Type 0
IsGranted p run = (job : JobId) × IsIn (record { run = run; job = job }) p.grants

-- What a mail tells is so: an Activate and an Alive have their lease, a Stop is of a run that was
-- granted, a Gone and an Ended of one that was said to be over, a Matched of a claim of a slot of
-- the pool.
abbrev pub IsBorneOut : Protocol → Mail → Type 0
IsBorneOut p (mail.Activate run job ad until) = IsTold p (mail.Activate run job ad until)
IsBorneOut p (mail.Alive run until) = IsTold p (mail.Alive run until)
IsBorneOut p (mail.Stop run) = IsGranted p run
IsBorneOut p (mail.Gone run kept) = IsHeard p (mail.Gone run kept)
IsBorneOut p (mail.Ended run how) = IsHeard p (mail.Ended run how)
IsBorneOut p (mail.Matched found) = IsClaim found.claim × IsPlaced p found.claim.no
IsBorneOut p _ = Unit {0}

abbrev pub AreBorneOut : Protocol → List Mail → Type 0
AreBorneOut p mails = (m : Mail) → IsIn m mails → IsBorneOut p m

-- ---- startds
-- the last end of a run that a slot keeps was said
abbrev pub IsEndReported : Protocol → Option (RunNo × How) → Type 0
IsEndReported p ended = IfSome ended (λ e. IsHeard p (mail.Ended e.0 e.1))

abbrev pub ended_of : Option Held → Option (RunNo × How)
ended_of None = None
ended_of (Some h) = h.ended

abbrev pub AreEndsReported : Protocol → List Slot → Type 0
AreEndsReported p slots = (s : Slot) → IsIn s slots → IsEndReported p (ended_of s.state.held)

-- the startd of a machine
pub record IsStartdAt (p : Protocol) (machine : ℕ) (v : StartdValue) : Type 0 where
  pub numbered : v.machine.number ≡ machine
  pub sound : IsSound v
  pub ends : AreEndsReported p v.slots

abbrev pub AreStartds : Protocol → List StartdValue → Type 0
AreStartds p vs = (machine : ℕ) (v : StartdValue) → slice_get vs machine ≡ Some v
    → IsStartdAt p machine v

-- ---- the unfinished transaction
-- a queue with new jobs, which are idle, and with all others as they were
pub record BringsJobs (q : KeyedAds) (jobs : List NewJob) (new : KeyedAds) : Type 0 where
  pub queue : IsOrdered new
  pub each : (j : NewJob) → IsIn j jobs
      → IsSomeAnd (ad_at (Proc j.job) new) (λ ad. (core_of ad ≡ j.core) × (kind_of ad ≡ Some Idle))
  pub others : (job : JobId) → ((j : NewJob) → IsIn j jobs → job ≡ j.job → ⊥)
      → ad_at (Proc job) new ≡ ad_at (Proc job) q

abbrev pub new_job_id : NewJob → JobId
new_job_id j = j.job

-- a submission
pub record AwaitsJobs (p : Protocol) (a : PoolParts) (ids : List JobId) (tx : List Operation)
    : Type 0 where
  pub jobs : List NewJob
  pub named : map new_job_id jobs ≡ ids
  pub change : p.pending ≡ Some (Submission jobs)
  pub brings : (new : KeyedAds) → queue_after a.queue tx ≡ Ok new → BringsJobs a.queue jobs new
  pub idle : a.schedd.waiting ≡ None
  pub fits : Fits a.queue a.schedd

-- a schedd that fits the queue; what comes back of the other after a crash comes back of this one
pub record StandsIn (v : ScheddValue) (q : KeyedAds) (old : ScheddValue) : Type 0 where
  pub fits : Fits q old
  pub idle : old.waiting ≡ None
  pub left : old.left ≡ v.left
  pub next : old.next_run ≡ v.next_run
  pub back : (reading : ℕ) (new : ScheddValue) → IsReopened v q reading new
      → IsReopened old q reading new

-- a grant is of a claim of a slot of the pool
abbrev pub IsPlanPlaced : Protocol → JobPlan → Type 0
IsPlanPlaced p (plan.Grant job claim number until header) = IsPlaced p claim.no
IsPlanPlaced p _ = Unit {0}

-- a plan
pub record AwaitsPlan (p : Protocol) (a : PoolParts) (pl : JobPlan) : Type 0 where
  pub change : p.pending ≡ Some (change_of p.pool.jobs pl)
  pub waiting : a.schedd.waiting ≡ Some pl
  pub fitting : IsFitting a.queue a.schedd.left pl
  pub fits : (new : KeyedAds) → queue_after a.queue (plan_ops pl) ≡ Ok new
      → Fits new (after_plan pl a.schedd)
  pub placed : IsPlanPlaced p pl
  -- the schedd as it would be, were the plan lost
  pub unplanned : ScheddValue
  pub lost : StandsIn a.schedd a.queue unplanned

-- nothing
pub record AwaitsNothing (p : Protocol) (a : PoolParts) : Type 0 where
  pub change : p.pending ≡ None
  pub waiting : a.schedd.waiting ≡ None
  pub fits : Fits a.queue a.schedd

abbrev pub Awaits : Protocol → PoolParts → Option Awaited → Type 0
Awaits p a None = AwaitsNothing p a
Awaits p a (Some (NewJobs ids tx)) = AwaitsJobs p a ids tx
Awaits p a (Some (Planned pl)) = AwaitsPlan p a pl

-- ---- the parts and the protocol
pub record IsLinked (p : Protocol) (a : PoolParts) : Type 0 where
  -- the facts of the protocol, and its pool is safe
  pub facts : Facts p
  pub safe : Safe p.pool
  -- The abstract pool is what the parts show. Its moment is the greatest reading.
  pub moment : p.pool.moment ≡ a.moment
  -- It has the acknowledged jobs, the ordered ones, and the reports of ends.
  pub acked : SameMembers p.pool.acked a.acked
  pub ordered : SameMembers p.pool.ordered a.ordered
  pub reports : SameMembers p.pool.reports a.reports
  -- It has the slots' runs, marks and ads.
  pub slots : HasParts p (pool_parts a.startds)
  -- It has the jobs of the queue, and the number of the next run; each job that the queue marks as
  -- one to be removed is one of the protocol's.
  pub schedd : IsPart p a.queue a.schedd
  -- It has the jobs that have left the queue.
  pub finished : (job : JobId)
      → IsFinishedAs (ad_at (Proc job) a.queue) (a.finished job) (p.pool.jobs job)
  -- each startd has its machine's number, is sound, and every end that it keeps was said
  pub startds : AreStartds p a.startds
  -- what each mail tells is so
  pub mails : AreBorneOut p a.mails
  -- the slots of the schedd's claims, and of all grants, are slots of the pool
  pub claims : (c : KeptClaim) → IsIn c a.schedd.claims → IsPlaced p c.claim.no
  pub granted : (g : JobRun) → IsIn g p.grants → IsPlaced p g.run.claim
  -- the unfinished transaction is the protocol's pending change, and keeps its conditions
  pub awaited : Awaits p a a.awaited

-- there is a protocol to which the parts are linked
abbrev pub HoldTogether : PoolParts → Type 0
HoldTogether a = (p : Protocol) × IsLinked p a

-- the moves may be made one after the other, and the parts are linked to the protocol after them
pub record StayLinked (p : Protocol) (ms : List ProtocolMove) (a : PoolParts) : Type 0 where
  pub may : MayAll p ms
  pub linked : IsLinked (protocol_after_all p ms) a
