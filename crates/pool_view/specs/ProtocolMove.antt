-- What may happen in a protocol, move by move. Each condition is one that a daemon can see: the
-- schedd by the queue as logged and the mail that it received, a startd by its slot's mark, its
-- slot's run and the mail that it received.
use Rattle.std.specs.Prelude.{◌≡◌, ◌≢◌, ◌⊎◌, ℕ, ◌<◌, ◌≤◌, List, [], ◌∷◌, ◌++◌, Option, Some, None, IsSome, IsSomeAnd}
use Rattle.pool_view.specs.Ads.{IsMatch, core_of}
use Rattle.claim_id.specs.declared.numbers.JobId.{JobId}
use Rattle.claim_id.specs.declared.numbers.SlotId.{SlotId}
use Rattle.claim_id.specs.declared.numbers.RunNo.{RunNo}
use Rattle.claim_id.specs.declared.numbers.ClaimNo.{ClaimNo}
use Rattle.pool_mail.specs.declared.end.How.{How}
use Rattle.pool_view.specs.declared.job.Outcome.{Outcome}
use Rattle.pool_view.specs.declared.job.State.{State}
use Rattle.pool_view.specs.declared.mark.SlotMark.{SlotMark}
use Rattle.pool_view.specs.declared.run.Run.{Run}
use Rattle.pool_view.specs.declared.run.EndReport.{EndReport}
use Rattle.pool_view.specs.declared.job.Outcome.TheVariants.{EndedBy, Removed}
use Rattle.pool_view.specs.declared.job.State.TheVariants.{Idle, Held, Under, Left, Done}
use Rattle.pool_view.specs.AbstractPool.{AbstractPool, IsIn, SameMembers, SameView, IsSpent, Stands, HasCore}
use Rattle.pool_view.specs.AbstractStep.{AbstractStep, Time, Queue, Acknowledge, Order, Grant, Start, Mark, Extend, Stop, Free, Finish, Hold, Release, Lengthen, IsWaiting, IsEnding}
use Rattle.pool_view.specs.Protocol.{JobRun, Lease, NewJob, Change, Hidden, Submission, OfJob, Removal, Protocol, HasMark, Holds, HoldsBefore, marks_with, mark_with_claim, mark_with_number, mark_after_claim, mark_after_boot, view_after_all, AreNew, pending_steps}

pub data ProtocolMove : Type 0 where
  -- a reading is taken
  PassTime : (moment : ℕ) → ProtocolMove
  -- the schedd hands a transaction to the log; it is logged, or a crash loses it
  Pend : (change : Change) → ProtocolMove
  Commit : ProtocolMove
  Drop : ProtocolMove
  -- a submission is acknowledged
  Confirm : (job : JobId) → ProtocolMove
  -- a job's removal is ordered
  TakeOrder : (job : JobId) → ProtocolMove
  -- the schedd sends an Activate or an Alive
  SendLease : (lease : Lease) → ProtocolMove
  -- a claim is granted, uses up run numbers, and ends; a machine boots
  HoldClaim : (claim : ClaimNo) → ProtocolMove
  UseNumber : (run : RunNo) → ProtocolMove
  EndClaim : (claim : ClaimNo) → ProtocolMove
  Reboot : (slot : SlotId) (boot : ℕ) → ProtocolMove
  -- a run starts, hears of a later end of its lease, and ends with a word or without
  StartRun : (run : Run) → ProtocolMove
  ExtendRun : (run : Run) (until : ℕ) → ProtocolMove
  StopRun : (run : Run) (how : Option How) → ProtocolMove
  -- a startd says that a run is gone
  SayGone : (run : RunNo) → ProtocolMove

-- ---- the schedd's conditions
-- a startd said that the run is over, by a Gone or an Ended
abbrev pub IsSaidOver : Protocol → RunNo → Type 0
IsSaidOver p run = IsIn run p.gone ⊎ ((s : EndReport) × IsIn s p.pool.reports × (s.run ≡ run))

-- a job may be let go: its run is said to be over, or its lease is past, or it is Left
abbrev pub MayLetGo : Protocol → State → Type 0
MayLetGo p (Under run end) = IsSaidOver p run ⊎ (end ≤ p.pool.moment)
MayLetGo p Left = Unit {0}
MayLetGo p Idle = ⊥
MayLetGo p Held = ⊥
MayLetGo p (Done outcome) = ⊥

-- a job may be taken out: by an end of the run that it is under, which a startd said of some job;
-- or since it was ordered
abbrev pub MayTakeOut : Protocol → JobId → Outcome → Type 0
MayTakeOut p job (EndedBy run how) = ((end : ℕ) × Stands p.pool job (Under run end))
    × ((q : JobId) × IsIn (record { run = run; job = q; how = how }) p.pool.reports)
    × IsEnding how
MayTakeOut p job Removed = (IsIn job p.pool.ordered ⊎ IsIn job p.removals)
    × IsSomeAnd (p.pool.jobs job) (λ e. IsWaiting e.state ⊎ MayLetGo p e.state)

-- the step of one job's state that the schedd may choose
abbrev pub MayChoose : Protocol → AbstractStep → Type 0
MayChoose p (Grant job run end) = Stands p.pool job Idle × (run.number ≡ p.pool.next)
MayChoose p (Free job state) = IsWaiting state
    × IsSomeAnd (p.pool.jobs job) (λ e. MayLetGo p e.state)
MayChoose p (Finish job outcome) = MayTakeOut p job outcome
MayChoose p (Hold job) = Stands p.pool job Idle
MayChoose p (Release job) = Stands p.pool job Held
MayChoose p (Lengthen job end) = (run : RunNo) × (old : ℕ) × Stands p.pool job (Under run old)
    × (old ≤ end)
MayChoose p (Time moment) = ⊥
MayChoose p (Queue job core) = ⊥
MayChoose p (Acknowledge job) = ⊥
MayChoose p (Order job) = ⊥
MayChoose p (Start r marks) = ⊥
MayChoose p (Mark marks) = ⊥
MayChoose p (Extend r until) = ⊥
MayChoose p (Stop r how) = ⊥

abbrev pub MayPend : Protocol → Change → Type 0
MayPend p Hidden = Unit {0}
MayPend p (Submission jobs) = AreNew p.pool.jobs jobs
MayPend p (OfJob step) = MayChoose p step
MayPend p (Removal job) = IsIn job p.pool.ordered

-- by the queue as logged the job is under that run at least until then
abbrev pub IsLogged : Protocol → Lease → Type 0
IsLogged p l = ((end : ℕ) × Stands p.pool l.job (Under l.run end) × (l.until ≤ end))
    × HasCore p.pool l.job l.core

-- ---- a startd's conditions
abbrev pub HasNoRun : AbstractPool → SlotId → Type 0
HasNoRun v slot = (s : Run) → IsIn s v.runs → s.slot ≢ slot

-- the slot doesn't run it
abbrev pub IsNotRun : AbstractPool → RunNo → Type 0
IsNotRun v run = (s : Run) → IsIn s v.runs → s.slot ≡ run.claim.slot → s.run ≢ run

-- a claim of the slot's boot that was offered after all that have ended, and none is held
abbrev pub IsFreeFor : ClaimNo → SlotMark → Type 0
IsFreeFor claim m = (claim.boot ≡ m.boot) × (m.ended < claim.seq) × (m.held ≡ None)

-- What a startd has seen when it starts a run: its slot holds the run's claim and has used no such
-- number, and has no run; an Activate of this run told it the job, its ad and the lease; and it
-- judged that ad and its slot's, and they match.
pub record MayStartRun (p : Protocol) (r : Run) : Type 0 where
  pub slot : r.slot ≡ r.run.claim.slot
  pub held : HoldsBefore p.pool.marks r.run
  pub free : HasNoRun p.pool r.slot
  pub lease : Lease
  pub sent : IsIn lease p.leases
  pub its_run : lease.run ≡ r.run
  pub its_job : lease.job ≡ r.job
  pub its_core : lease.core ≡ core_of r.judged.job
  pub its_until : r.until ≤ lease.until
  pub slot_ad : p.pool.slots r.slot ≡ Some r.judged.slot
  pub match : IsMatch r.judged

-- when a move may be made
abbrev pub MayMove : Protocol → ProtocolMove → Type 0
MayMove p (PassTime moment) = p.pool.moment ≤ moment
MayMove p (Pend change) = (p.pending ≡ None) × MayPend p change
MayMove p Commit = Unit {0}
MayMove p Drop = Unit {0}
MayMove p (Confirm job) = IsSome (p.pool.jobs job)
MayMove p (TakeOrder job) = IsSome (p.pool.jobs job)
MayMove p (SendLease l) = IsLogged p l
MayMove p (HoldClaim claim) = HasMark p.pool.marks claim.slot (IsFreeFor claim)
MayMove p (UseNumber run) = Holds p.pool.marks run.claim
MayMove p (EndClaim claim) = Holds p.pool.marks claim × HasNoRun p.pool claim.slot
MayMove p (Reboot slot boot) = HasMark p.pool.marks slot (λ m. m.boot < boot)
    × HasNoRun p.pool slot
MayMove p (StartRun r) = MayStartRun p r
MayMove p (ExtendRun r until) = IsIn r p.pool.runs
    × ((l : Lease) × IsIn l p.leases × (l.run ≡ r.run) × (until ≤ l.until))
MayMove p (StopRun r how) = IsIn r p.pool.runs
MayMove p (SayGone run) = IsSpent p.pool run × IsNotRun p.pool run

-- ---- what a move changes
-- the step of a slot's mark
abbrev pub mark_step : Protocol → SlotId → (SlotMark → SlotMark) → AbstractStep
mark_step p slot change = Mark (marks_with p.pool.marks slot change)

-- the abstract steps that a move makes
abbrev pub steps_of : Protocol → ProtocolMove → List AbstractStep
steps_of p (PassTime moment) = Time moment ∷ []
steps_of p (Pend change) = []
steps_of p Commit = pending_steps p.pending
steps_of p Drop = []
steps_of p (Confirm job) = Acknowledge job ∷ []
steps_of p (TakeOrder job) = Order job ∷ []
steps_of p (SendLease l) = []
steps_of p (HoldClaim claim) = mark_step p claim.slot (mark_with_claim claim) ∷ []
steps_of p (UseNumber run) = mark_step p run.claim.slot (mark_with_number run.number) ∷ []
steps_of p (EndClaim claim) = mark_step p claim.slot (mark_after_claim claim) ∷ []
steps_of p (Reboot slot boot) = mark_step p slot (mark_after_boot boot) ∷ []
steps_of p (StartRun r) =
    Start r (marks_with p.pool.marks r.run.claim.slot (mark_with_number r.run.number)) ∷ []
steps_of p (ExtendRun r until) = Extend r until ∷ []
steps_of p (StopRun r how) = Stop r how ∷ []
steps_of p (SayGone run) = []

-- the grants, with the one that a step makes
abbrev pub grants_with : AbstractStep → List JobRun → List JobRun
grants_with (Grant job run end) gs = record { run = run; job = job } ∷ gs
grants_with (Time moment) gs = gs
grants_with (Queue job core) gs = gs
grants_with (Acknowledge job) gs = gs
grants_with (Order job) gs = gs
grants_with (Start r marks) gs = gs
grants_with (Mark marks) gs = gs
grants_with (Extend r until) gs = gs
grants_with (Stop r how) gs = gs
grants_with (Free job state) gs = gs
grants_with (Finish job outcome) gs = gs
grants_with (Hold job) gs = gs
grants_with (Release job) gs = gs
grants_with (Lengthen job end) gs = gs

abbrev pub grants_with_all : List AbstractStep → List JobRun → List JobRun
grants_with_all [] gs = gs
grants_with_all (k ∷ ks) gs = grants_with_all ks (grants_with k gs)

-- the jobs that are marked as to be removed, with the one that a change marks
abbrev pub removals_with : Option Change → List JobId → List JobId
removals_with None jobs = jobs
removals_with (Some Hidden) jobs = jobs
removals_with (Some (Submission new)) jobs = jobs
removals_with (Some (OfJob step)) jobs = jobs
removals_with (Some (Removal job)) jobs = job ∷ jobs

-- the protocol with the pool after those steps
abbrev pub with_steps : Protocol → List AbstractStep → Protocol
with_steps p ks =
    record p { pool = view_after_all p.pool ks; grants = grants_with_all ks p.grants }

-- the protocol after a move
abbrev pub protocol_after : Protocol → ProtocolMove → Protocol
protocol_after p (PassTime moment) = with_steps p (steps_of p (PassTime moment))
protocol_after p (Pend change) = record p { pending = Some change }
protocol_after p Commit = record (with_steps p (steps_of p Commit)) {
  removals = removals_with p.pending p.removals;
  pending = None;
}
protocol_after p Drop = record p { pending = None }
protocol_after p (Confirm job) = with_steps p (steps_of p (Confirm job))
protocol_after p (TakeOrder job) = with_steps p (steps_of p (TakeOrder job))
protocol_after p (SendLease l) = record p { leases = l ∷ p.leases }
protocol_after p (HoldClaim claim) = with_steps p (steps_of p (HoldClaim claim))
protocol_after p (UseNumber run) = with_steps p (steps_of p (UseNumber run))
protocol_after p (EndClaim claim) = with_steps p (steps_of p (EndClaim claim))
protocol_after p (Reboot slot boot) = with_steps p (steps_of p (Reboot slot boot))
protocol_after p (StartRun r) = with_steps p (steps_of p (StartRun r))
protocol_after p (ExtendRun r until) = with_steps p (steps_of p (ExtendRun r until))
protocol_after p (StopRun r how) = with_steps p (steps_of p (StopRun r how))
protocol_after p (SayGone run) = record p { gone = run ∷ p.gone }

-- each part is the same map or set
pub record SameProtocol (p q : Protocol) : Type 0 where
  pub pool : SameView p.pool q.pool
  pub grants : SameMembers p.grants q.grants
  pub leases : SameMembers p.leases q.leases
  pub gone : SameMembers p.gone q.gone
  pub removals : SameMembers p.removals q.removals
  pub pending : q.pending ≡ p.pending

-- ---- lists of moves
-- the moves may be made one after the other
abbrev pub MayAll : Protocol → List ProtocolMove → Type 0
MayAll p [] = Unit {0}
MayAll p (m ∷ ms) = MayMove p m × MayAll (protocol_after p m) ms

-- the protocol after all of them
abbrev pub protocol_after_all : Protocol → List ProtocolMove → Protocol
protocol_after_all p [] = p
protocol_after_all p (m ∷ ms) = protocol_after_all (protocol_after p m) ms

-- the abstract steps of all of them
abbrev pub all_steps : Protocol → List ProtocolMove → List AbstractStep
all_steps p [] = []
all_steps p (m ∷ ms) = steps_of p m ++ all_steps (protocol_after p m) ms

abbrev pub confirm_move : NewJob → ProtocolMove
confirm_move j = Confirm j.job

-- the moves lead from one protocol to another
pub record MovesTo (p : Protocol) (ms : List ProtocolMove) (q : Protocol) : Type 0 where
  pub may : MayAll p ms
  pub leads : SameProtocol (protocol_after_all p ms) q

-- nothing that was sent, said, ordered or marked in the first is missing in the second
pub record Remembers (p q : Protocol) : Type 0 where
  pub leases : (l : Lease) → IsIn l p.leases → IsIn l q.leases
  pub gone : (run : RunNo) → IsIn run p.gone → IsIn run q.gone
  pub reports : (s : EndReport) → IsIn s p.pool.reports → IsIn s q.pool.reports
  pub ordered : (job : JobId) → IsIn job p.pool.ordered → IsIn job q.pool.ordered
  pub removals : (job : JobId) → IsIn job p.removals → IsIn job q.removals
