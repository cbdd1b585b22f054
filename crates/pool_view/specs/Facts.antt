-- What always holds of a protocol.
use Rattle.std.specs.Prelude.{◌≡◌, ◌⊎◌, ℕ, ◌<◌, List, [], None, IfSome, IsSome}
use Rattle.claim_id.specs.declared.numbers.JobId.{JobId}
use Rattle.claim_id.specs.declared.numbers.SlotId.{SlotId}
use Rattle.claim_id.specs.declared.numbers.RunNo.{RunNo}
use Rattle.pool_view.specs.declared.job.State.{State}
use Rattle.pool_view.specs.declared.run.Run.{Run}
use Rattle.pool_view.specs.declared.run.EndReport.{EndReport}
use Rattle.pool_view.specs.declared.mark.SlotMark.{SlotMark}
use Rattle.pool_view.specs.declared.job.State.TheVariants.{Idle, Held, Under, Left}
use Rattle.pool_view.specs.AbstractPool.{Marks, AbstractPool, IsIn, IsDead, Stands, HasCore}
use Rattle.pool_view.specs.AbstractStep.{AbstractStep, Time, Queue, Acknowledge, Order, Grant, Start, Mark, Extend, Stop, Free, Finish, Hold, Release, Lengthen, IsLeased, Allowed}
use Rattle.pool_view.specs.Safe.{RunsLeased, RunsSpent}
use Rattle.pool_view.specs.Protocol.{JobRun, Lease, Change, Hidden, Submission, OfJob, Removal, Protocol, Holds, AreNew}

-- A run number below the next one names one run and one job; every run that is spoken of was
-- granted.
pub record RunNumbers (v : AbstractPool) (grants : List JobRun) : Type 0 where
  pub below : (g : JobRun) → IsIn g grants → g.run.number < v.next
  pub one : (g h : JobRun) → IsIn g grants → IsIn h grants → g.run.number ≡ h.run.number → g ≡ h
  pub of_jobs : (job : JobId) (run : RunNo) (end : ℕ) → Stands v job (Under run end)
      → IsIn (record { run = run; job = job }) grants
  pub of_runs : (r : Run) → IsIn r v.runs → IsIn (record { run = r.run; job = r.job }) grants
  pub of_reports : (s : EndReport) → IsIn s v.reports
      → IsIn (record { run = s.run; job = s.job }) grants

-- a lease holds: its run is dead, or it is past, or its job is under the run with an end of at
-- least that
abbrev pub IsKept : AbstractPool → JobId → RunNo → ℕ → Type 0
IsKept v job run until = IsDead v run ⊎ IsLeased v job run until

pub record SentLeases (v : AbstractPool) (grants : List JobRun) (leases : List Lease) : Type 0 where
  pub granted : (l : Lease) → IsIn l leases → IsIn (record { run = l.run; job = l.job }) grants
  pub kept : (l : Lease) → IsIn l leases → IsKept v l.job l.run l.until
  pub cores : (l : Lease) → IsIn l leases → HasCore v l.job l.core

-- a run that is said to be over is dead
pub record DeadRuns (v : AbstractPool) (gone : List RunNo) : Type 0 where
  pub gone_dead : (run : RunNo) → IsIn run gone → IsDead v run
  pub reported_dead : (s : EndReport) → IsIn s v.reports → IsDead v s.run

-- a held claim is one of its slot, offered in this boot after all that have ended
abbrev pub IsSound : SlotId → SlotMark → Type 0
IsSound slot m = IfSome m.held
    (λ h. (h.claim.slot ≡ slot) × (h.claim.boot ≡ m.boot) × (m.ended < h.claim.seq))

abbrev pub MarksSound : Marks → Type 0
MarksSound marks = (slot : SlotId) → IfSome (marks slot) (IsSound slot)

-- a run stands in the slot of its claim, which the slot holds
abbrev pub IsClaimed : Marks → Run → Type 0
IsClaimed marks r = (r.slot ≡ r.run.claim.slot) × Holds marks r.run.claim

-- each run is spent, is leased as its job is, and runs under the claim that its slot holds
pub record RunningRuns (v : AbstractPool) : Type 0 where
  pub spent : RunsSpent v
  pub leased : RunsLeased v
  pub claimed : (r : Run) → IsIn r v.runs → IsClaimed v.marks r
  pub marks : MarksSound v.marks

-- the step changes one job's state
abbrev pub IsOfJob : AbstractStep → Type 0
IsOfJob (Grant job run end) = Unit {0}
IsOfJob (Free job state) = Unit {0}
IsOfJob (Finish job outcome) = Unit {0}
IsOfJob (Hold job) = Unit {0}
IsOfJob (Release job) = Unit {0}
IsOfJob (Lengthen job end) = Unit {0}
IsOfJob (Time moment) = ⊥
IsOfJob (Queue job core) = ⊥
IsOfJob (Acknowledge job) = ⊥
IsOfJob (Order job) = ⊥
IsOfJob (Start r marks) = ⊥
IsOfJob (Mark marks) = ⊥
IsOfJob (Extend r until) = ⊥
IsOfJob (Stop r how) = ⊥

-- the change could be made now
abbrev pub CanBeMade : AbstractPool → Change → Type 0
CanBeMade v Hidden = Unit {0}
CanBeMade v (Submission jobs) = AreNew v.jobs jobs
CanBeMade v (OfJob step) = IsOfJob step × Allowed v step
CanBeMade v (Removal job) = IsIn job v.ordered

pub record Facts (p : Protocol) : Type 0 where
  pub numbers : RunNumbers p.pool p.grants
  pub leases : SentLeases p.pool p.grants p.leases
  pub dead : DeadRuns p.pool p.gone
  pub running : RunningRuns p.pool
  -- the unfinished transaction can be made
  pub pending : IfSome p.pending (CanBeMade p.pool)
  -- a job that is marked as one to be removed was ordered to be
  pub removals : (job : JobId) → IsIn job p.removals → IsIn job p.pool.ordered

-- no run of the job was granted since the pool was opened
abbrev pub IsUnstarted : State → Type 0
IsUnstarted state = (state ≡ Idle) ⊎ ((state ≡ Held) ⊎ (state ≡ Left))

-- a pool that has just been opened: nothing was granted, sent or said, nothing runs, no claim is
-- held, and every job that the queue has under a run is Left
pub record IsOpening (p : Protocol) : Type 0 where
  pub grants : p.grants ≡ []
  pub leases : p.leases ≡ []
  pub gone : p.gone ≡ []
  pub runs : p.pool.runs ≡ []
  pub reports : p.pool.reports ≡ []
  pub pending : p.pending ≡ None
  pub marks : (slot : SlotId) → IfSome (p.pool.marks slot) (λ m. m.held ≡ None)
  pub jobs : (job : JobId) → IfSome (p.pool.jobs job) (λ e. IsUnstarted e.state)
  pub acked : (job : JobId) → IsIn job p.pool.acked → IsSome (p.pool.jobs job)
  pub removals : (job : JobId) → IsIn job p.removals → IsIn job p.pool.ordered
