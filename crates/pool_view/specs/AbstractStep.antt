-- What may happen in an abstract pool, step by step.
use Rattle.std.specs.Prelude.{◌≡◌, ◌≢◌, ◌⊎◌, ℕ, ◌+◌, ◌≤◌, List, [], ◌∷◌, Option, Some, None, IsSome, IsSomeAnd, option_map, not, max, map, filter, if◌then◌else◌}
use Rattle.pool_view.specs.Ads.{Core, IsMatch, core_of}
use Rattle.claim_id.specs.declared.numbers.JobId.{JobId}
use Rattle.claim_id.specs.declared.numbers.RunNo.{RunNo}
use Rattle.pool_view.specs.Numbers.{same_job, same_run}
use Rattle.pool_mail.specs.declared.end.How.{How}
use Rattle.pool_view.specs.declared.job.Outcome.{Outcome}
use Rattle.pool_view.specs.declared.job.State.{State}
use Rattle.pool_view.specs.declared.job.Entry.{Entry}
use Rattle.pool_view.specs.declared.run.Run.{Run}
use Rattle.pool_view.specs.declared.run.EndReport.{EndReport}
use Rattle.pool_mail.specs.declared.end.How.TheVariants.{Exited, Signalled, NotStarted, Evicted, Stopped}
use Rattle.pool_view.specs.declared.job.Outcome.TheVariants.{EndedBy, Removed}
use Rattle.pool_view.specs.declared.job.State.TheVariants.{Idle, Held, Under, Left, Done}
use Rattle.pool_view.specs.AbstractPool.{Marks, AbstractPool, IsIn, set, SameView, IsSpent, IsSpentBy, IsDead, KeepsSpent, Stands, HasCore}

pub data AbstractStep : Type 0 where
  -- the moment grows
  Time : (moment : ℕ) → AbstractStep
  -- a submitted job comes into the queue (HTCondor manual, condor_submit)
  Queue : (job : JobId) (core : Core) → AbstractStep
  -- the submitter is told that it is there
  Acknowledge : (job : JobId) → AbstractStep
  -- the job is to be removed (condor_rm, periodic_remove); only such an order makes this step
  Order : (job : JobId) → AbstractStep
  -- the job is to run under a claim, with a lease that ends then (condor_submit,
  -- job_lease_duration)
  Grant : (job : JobId) (run : RunNo) (end : ℕ) → AbstractStep
  -- a slot starts a run, whose two ads it has judged itself: a match is a hint until both sides
  -- have checked it (Raman, Livny and Solomon, 1998, the claiming protocol)
  Start : (run : Run) (marks : Marks) → AbstractStep
  -- claims come and go
  Mark : (marks : Marks) → AbstractStep
  -- a slot hears of a later end of a run's lease
  Extend : (run : Run) (until : ℕ) → AbstractStep
  -- a run ends, and its machine says how, or is lost and says nothing
  Stop : (run : Run) (how : Option How) → AbstractStep
  -- a job whose run is dead or whose lease is past waits again, or is held
  Free : (job : JobId) (state : State) → AbstractStep
  -- a job leaves the queue
  Finish : (job : JobId) (outcome : Outcome) → AbstractStep
  -- condor_hold and condor_release
  Hold : (job : JobId) → AbstractStep
  Release : (job : JobId) → AbstractStep
  -- the job's lease is renewed
  Lengthen : (job : JobId) (end : ℕ) → AbstractStep

-- a run's lease ends by now, or no later than the job's own
abbrev pub IsLeased : AbstractPool → JobId → RunNo → ℕ → Type 0
IsLeased v job run until = (until ≤ v.moment)
    ⊎ ((end : ℕ) × Stands v job (Under run end) × (until ≤ end))

-- no run can come of the job's grant any more
abbrev pub IsOver : AbstractPool → State → Type 0
IsOver v (Under run end) = IsDead v run ⊎ (end ≤ v.moment)
IsOver v Left = Unit {0}
IsOver v Idle = ⊥
IsOver v Held = ⊥
IsOver v (Done outcome) = ⊥

abbrev pub IsWaiting : State → Type 0
IsWaiting state = (state ≡ Idle) ⊎ (state ≡ Held)

-- the program came to an end of its own
abbrev pub IsEnding : How → Type 0
IsEnding (Exited code) = Unit {0}
IsEnding (Signalled signal) = Unit {0}
IsEnding NotStarted = ⊥
IsEnding Evicted = ⊥
IsEnding Stopped = ⊥

-- when a slot may start a run: once, alone, under its lease, and by a match of its own ad and the
-- job's
pub record MayStart (v : AbstractPool) (r : Run) : Type 0 where
  pub unspent : ¬ IsSpent v r.run
  pub new_number : (s : Run) → IsIn s v.runs → s.run.number ≢ r.run.number
  pub claimed : r.slot ≡ r.run.claim.slot
  pub free : (s : Run) → IsIn s v.runs → s.slot ≢ r.slot
  pub leased : IsLeased v r.job r.run r.until
  pub slot_ad : v.slots r.slot ≡ Some r.judged.slot
  pub job_ad : HasCore v r.job (core_of r.judged.job)
  pub match : IsMatch r.judged

-- when a job may leave the queue
abbrev pub MayFinish : AbstractPool → JobId → Outcome → Type 0
MayFinish v job (EndedBy run how) = ((end : ℕ) × Stands v job (Under run end)) × IsDead v run
    × IsIn (record { run = run; job = job; how = how }) v.reports × IsEnding how
MayFinish v job Removed = IsIn job v.ordered
    × IsSomeAnd (v.jobs job) (λ e. IsWaiting e.state ⊎ IsOver v e.state)

-- when a step may be made
abbrev pub Allowed : AbstractPool → AbstractStep → Type 0
Allowed v (Time moment) = v.moment ≤ moment
Allowed v (Queue job core) = v.jobs job ≡ None
Allowed v (Acknowledge job) = IsSome (v.jobs job)
Allowed v (Order job) = IsSome (v.jobs job)
Allowed v (Grant job run end) = Stands v job Idle × (run.number ≡ v.next)
Allowed v (Start r marks) = MayStart v r × IsSpentBy marks r.run × KeepsSpent v.marks marks
Allowed v (Mark marks) = KeepsSpent v.marks marks
Allowed v (Extend r until) = IsIn r v.runs × IsLeased v r.job r.run until
Allowed v (Stop r how) = IsIn r v.runs
Allowed v (Free job state) = IsWaiting state × IsSomeAnd (v.jobs job) (λ e. IsOver v e.state)
Allowed v (Finish job outcome) = MayFinish v job outcome
Allowed v (Hold job) = Stands v job Idle
Allowed v (Release job) = Stands v job Held
Allowed v (Lengthen job end) = (run : RunNo) × (old : ℕ) × Stands v job (Under run old)
    × (old ≤ end)

abbrev pub entry_with_state : (State → State) → Entry → Entry
entry_with_state change e = record e { state = change e.state }

-- the pool with one job's state changed
abbrev pub with_state : AbstractPool → JobId → (State → State) → AbstractPool
with_state v job change =
    record v { jobs = set same_job v.jobs job (option_map (entry_with_state change) (v.jobs job)) }

abbrev pub with_lease_end : ℕ → State → State
with_lease_end end (Under run old) = Under run end
with_lease_end end Idle = Idle
with_lease_end end Held = Held
with_lease_end end Left = Left
with_lease_end end (Done outcome) = Done outcome

-- the run with an end of its lease that is at least that
abbrev pub with_until : RunNo → ℕ → Run → Run
with_until run until r = if same_run r.run run then record r { until = max r.until until } else r

abbrev pub reports_with : Option How → Run → List EndReport → List EndReport
reports_with None r reports = reports
reports_with (Some how) r reports = record { run = r.run; job = r.job; how = how } ∷ reports

-- the pool after a step
abbrev pub view_after : AbstractPool → AbstractStep → AbstractPool
view_after v (Time moment) = record v { moment = moment }
view_after v (Queue job core) =
    record v { jobs = set same_job v.jobs job (Some (record { core = core; state = Idle })) }
view_after v (Acknowledge job) = record v { acked = job ∷ v.acked }
view_after v (Order job) = record v { ordered = job ∷ v.ordered }
view_after v (Grant job run end) =
    record (with_state v job (λ _. Under run end)) { next = v.next + 1 }
view_after v (Start r marks) = record v { runs = r ∷ v.runs; marks = marks }
view_after v (Mark marks) = record v { marks = marks }
view_after v (Extend r until) = record v { runs = map (with_until r.run until) v.runs }
view_after v (Stop r how) = record v {
  runs = filter (λ s. not (same_run s.run r.run)) v.runs;
  reports = reports_with how r v.reports;
}
view_after v (Free job state) = with_state v job (λ _. state)
view_after v (Finish job outcome) = with_state v job (λ _. Done outcome)
view_after v (Hold job) = with_state v job (λ _. Held)
view_after v (Release job) = with_state v job (λ _. Idle)
view_after v (Lengthen job end) = with_state v job (with_lease_end end)

-- every step that is allowed leads from a pool to another so
abbrev pub Leads : (AbstractPool → AbstractPool → Type 0) → Type 0
Leads P = (v : AbstractPool) (k : AbstractStep) → Allowed v k → P v (view_after v k)

-- the steps lead from one pool to another, one after the other
abbrev pub Takes : AbstractPool → List AbstractStep → AbstractPool → Type 0
Takes v [] w = SameView v w
Takes v (k ∷ ks) w = Allowed v k × Takes (view_after v k) ks w

-- some steps do
abbrev pub Moves : AbstractPool → AbstractPool → Type 0
Moves v w = (ks : List AbstractStep) × Takes v ks w
