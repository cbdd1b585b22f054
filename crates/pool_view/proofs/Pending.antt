-- The unfinished transaction: it can be made when it is handed to the log, and stays so while other daemons move.
use Rattle.std.proofs.Common.{◌≡◌, ◌≤◌, ◌⊎◌, inl, inr, List, [], ◌∷◌, Option, Some, None, refl, sym, ◌∙◌, ap, subst, arith, IfSome, IsSomeAnd, map}
use Rattle.claim_id.specs.declared.numbers.JobId.{JobId}
use Rattle.claim_id.specs.declared.numbers.RunNo.{RunNo}
use Rattle.pool_view.specs.declared.job.State.{State}
use Rattle.pool_view.specs.declared.job.Entry.{Entry}
use Rattle.pool_view.specs.declared.run.EndReport.{EndReport}
use Rattle.pool_view.specs.declared.job.Outcome.TheVariants.{EndedBy, Removed}
use Rattle.pool_view.specs.declared.job.State.TheVariants.{Idle, Held, Under, Left, Done}
use Rattle.pool_view.specs.AbstractPool.{AbstractPool, IsIn, IsDead, Stands}
use Rattle.pool_view.specs.AbstractStep.{AbstractStep, Time, Queue, Acknowledge, Order, Grant, Start, Mark, Extend, Stop, Free, Finish, Hold, Release, Lengthen, IsOver, IsWaiting, Allowed, view_after}
use Rattle.pool_view.proofs.Steps.{step_dead}
use Rattle.pool_view.specs.Protocol.{JobRun, NewJob, Change, Hidden, Submission, OfJob, Removal, Protocol, view_after_all, queue_step, AreNew, pending_steps}
use Rattle.pool_view.specs.ProtocolMove.{MayLetGo, MayChoose, MayPend, removals_with}
use Rattle.pool_view.specs.Facts.{RunNumbers, IsOfJob, CanBeMade, Facts}
use Rattle.pool_view.proofs.Tracked.{IsBacked, AllBacked}

-- ---- what the schedd has seen is enough
weaker : (o : Option Entry) (P Q : Entry → Type 0) → ((e : Entry) → P e → Q e) → IsSomeAnd o P → IsSomeAnd o Q
weaker None P Q f h = h
weaker (Some e) P Q f h = f e h

-- one run is of one job
pub one_job : (v : AbstractPool) (grants : List JobRun) → RunNumbers v grants → (a b : RunNo) (i j : JobId)
    → IsIn (record { run = a; job = i }) grants → IsIn (record { run = b; job = j }) grants → a.number ≡ b.number → (a ≡ b) × (i ≡ j)
one_job v grants numbers a b i j here there same =
    let x : JobRun = record { run = a; job = i } in
    let y : JobRun = record { run = b; job = j } in
    let one : x ≡ y = numbers.one x y here there same in
    (ap (λ g. g.run) one, ap (λ g. g.job) one)

over : (p : Protocol) → Facts p → (s : State) → MayLetGo p s → IsOver p.pool s
over p facts (Under run end) (inl (inl gone)) = inl (facts.dead.gone_dead run gone)
over p facts (Under run end) (inl (inr (s, said, same))) = inl (subst (IsDead p.pool) same (facts.dead.reported_dead s said))
over p facts (Under run end) (inr past) = inr past
over p facts Left h = tt
over p facts Idle h = h
over p facts Held h = h
over p facts (Done outcome) h = h

over_too : (p : Protocol) → Facts p → (s : State) → IsWaiting s ⊎ MayLetGo p s → IsWaiting s ⊎ IsOver p.pool s
over_too p facts s (inl waits) = inl waits
over_too p facts s (inr go) = inr (over p facts s go)

ordered_too : (p : Protocol) → Facts p → (job : JobId) → IsIn job p.pool.ordered ⊎ IsIn job p.removals → IsIn job p.pool.ordered
ordered_too p facts job (inl h) = h
ordered_too p facts job (inr h) = facts.removals job h

chosen : (p : Protocol) → Facts p → (k : AbstractStep) → MayChoose p k → IsOfJob k × Allowed p.pool k
chosen p facts (Grant job run end) may = (tt, may)
chosen p facts (Free job state) may = (tt, (may.0, weaker (p.pool.jobs job) (λ e. MayLetGo p e.state) (λ e. IsOver p.pool e.state) (λ e h. over p facts e.state h) may.1))
chosen p facts (Finish job (EndedBy run how)) ((end, stands), (q, said), own) =
    let here : IsIn (record { run = run; job = job }) p.grants = facts.numbers.of_jobs job run end stands in
    let there : IsIn (record { run = run; job = q }) p.grants = facts.numbers.of_reports (record { run = run; job = q; how = how }) said in
    let same : job ≡ q = (one_job p.pool p.grants facts.numbers run run job q here there refl).1 in
    (tt, ((end, stands), facts.dead.reported_dead (record { run = run; job = q; how = how }) said, subst (λ j. IsIn (record { run = run; job = j; how = how }) p.pool.reports) (sym same) said, own))
chosen p facts (Finish job Removed) may = (tt, (ordered_too p facts job may.0, weaker (p.pool.jobs job) (λ e. IsWaiting e.state ⊎ MayLetGo p e.state) (λ e. IsWaiting e.state ⊎ IsOver p.pool e.state) (λ e h. over_too p facts e.state h) may.1))
chosen p facts (Hold job) may = (tt, may)
chosen p facts (Release job) may = (tt, may)
chosen p facts (Lengthen job end) may = (tt, may)
chosen p facts (Time moment) may = absurd may
chosen p facts (Queue job core) may = absurd may
chosen p facts (Acknowledge job) may = absurd may
chosen p facts (Order job) may = absurd may
chosen p facts (Start r marks) may = absurd may
chosen p facts (Mark marks) may = absurd may
chosen p facts (Extend r until) may = absurd may
chosen p facts (Stop r how) may = absurd may

pub pend : (p : Protocol) → Facts p → (change : Change) → MayPend p change → CanBeMade p.pool change
pend p facts Hidden may = tt
pend p facts (Submission jobs) may = may
pend p facts (OfJob step) may = chosen p facts step may
pend p facts (Removal job) may = may

-- ---- it stays so
-- a pool with the same jobs, in which no less has come about
pub record Grows (v w : AbstractPool) : Type 0 where
  pub jobs : w.jobs ≡ v.jobs
  pub next : w.next ≡ v.next
  pub moment : v.moment ≤ w.moment
  pub dead : (run : RunNo) → IsDead v run → IsDead w run
  pub reports : (s : EndReport) → IsIn s v.reports → IsIn s w.reports
  pub ordered : (job : JobId) → IsIn job v.ordered → IsIn job w.ordered

over_on : (v w : AbstractPool) → Grows v w → (s : State) → IsOver v s → IsOver w s
over_on v w g (Under run end) (inl dead) = inl (g.dead run dead)
over_on v w g (Under run end) (inr past) = let later : v.moment ≤ w.moment = g.moment in inr (omega arith)
over_on v w g Left h = tt
over_on v w g Idle h = h
over_on v w g Held h = h
over_on v w g (Done outcome) h = h

over_on_too : (v w : AbstractPool) → Grows v w → (s : State) → IsWaiting s ⊎ IsOver v s → IsWaiting s ⊎ IsOver w s
over_on_too v w g s (inl waits) = inl waits
over_on_too v w g s (inr h) = inr (over_on v w g s h)

stands_on : (v w : AbstractPool) → Grows v w → (job : JobId) (s : State) → Stands v job s → Stands w job s
stands_on v w g job s stands = subst (λ jobs. IsSomeAnd (jobs job) (λ e. e.state ≡ s)) (sym g.jobs) stands

allowed_on : (v w : AbstractPool) → Grows v w → (k : AbstractStep) → IsOfJob k → Allowed v k → Allowed w k
allowed_on v w g (Grant job run end) of ok = (stands_on v w g job Idle ok.0, ok.1 ∙ sym g.next)
allowed_on v w g (Free job state) of ok = (ok.0, subst (λ jobs. IsSomeAnd (jobs job) (λ e. IsOver w e.state)) (sym g.jobs) (weaker (v.jobs job) (λ e. IsOver v e.state) (λ e. IsOver w e.state) (λ e h. over_on v w g e.state h) ok.1))
allowed_on v w g (Finish job (EndedBy run how)) of ((end, stands), dead, said, own) = ((end, stands_on v w g job (Under run end) stands), g.dead run dead, g.reports (record { run = run; job = job; how = how }) said, own)
allowed_on v w g (Finish job Removed) of ok = (g.ordered job ok.0, subst (λ jobs. IsSomeAnd (jobs job) (λ e. IsWaiting e.state ⊎ IsOver w e.state)) (sym g.jobs) (weaker (v.jobs job) (λ e. IsWaiting e.state ⊎ IsOver v e.state) (λ e. IsWaiting e.state ⊎ IsOver w e.state) (λ e h. over_on_too v w g e.state h) ok.1))
allowed_on v w g (Hold job) of ok = stands_on v w g job Idle ok
allowed_on v w g (Release job) of ok = stands_on v w g job Held ok
allowed_on v w g (Lengthen job end) of (run, old, stands, longer) = (run, old, stands_on v w g job (Under run old) stands, longer)
allowed_on v w g (Time moment) of ok = absurd of
allowed_on v w g (Queue job core) of ok = absurd of
allowed_on v w g (Acknowledge job) of ok = absurd of
allowed_on v w g (Order job) of ok = absurd of
allowed_on v w g (Start r marks) of ok = absurd of
allowed_on v w g (Mark marks) of ok = absurd of
allowed_on v w g (Extend r until) of ok = absurd of
allowed_on v w g (Stop r how) of ok = absurd of

pub can_on : (v w : AbstractPool) → Grows v w → (change : Change) → CanBeMade v change → CanBeMade w change
can_on v w g Hidden can = tt
can_on v w g (Submission jobs) can = subst (λ old. AreNew old jobs) (sym g.jobs) can
can_on v w g (OfJob step) can = (can.0, allowed_on v w g step can.0 can.1)
can_on v w g (Removal job) can = g.ordered job can

-- the steps that change no job's state
abbrev pub IsQuiet : AbstractStep → Type 0
IsQuiet (Time moment) = Unit {0}
IsQuiet (Acknowledge job) = Unit {0}
IsQuiet (Order job) = Unit {0}
IsQuiet (Start r marks) = Unit {0}
IsQuiet (Mark marks) = Unit {0}
IsQuiet (Extend r until) = Unit {0}
IsQuiet (Stop r how) = Unit {0}
IsQuiet (Queue job core) = ⊥
IsQuiet (Grant job run end) = ⊥
IsQuiet (Free job state) = ⊥
IsQuiet (Finish job outcome) = ⊥
IsQuiet (Hold job) = ⊥
IsQuiet (Release job) = ⊥
IsQuiet (Lengthen job end) = ⊥

pub reports_more : (v : AbstractPool) (k : AbstractStep) (s : EndReport) → IsIn s v.reports → IsIn s (view_after v k).reports
reports_more v (Time moment) s there = there
reports_more v (Queue job core) s there = there
reports_more v (Acknowledge job) s there = there
reports_more v (Order job) s there = there
reports_more v (Grant job run end) s there = there
reports_more v (Start r marks) s there = there
reports_more v (Mark marks) s there = there
reports_more v (Extend r until) s there = there
reports_more v (Stop r None) s there = there
reports_more v (Stop r (Some how)) s there = inr there
reports_more v (Free job state) s there = there
reports_more v (Finish job outcome) s there = there
reports_more v (Hold job) s there = there
reports_more v (Release job) s there = there
reports_more v (Lengthen job end) s there = there

pub ordered_more : (v : AbstractPool) (k : AbstractStep) (job : JobId) → IsIn job v.ordered → IsIn job (view_after v k).ordered
ordered_more v (Time moment) job there = there
ordered_more v (Queue new core) job there = there
ordered_more v (Acknowledge new) job there = there
ordered_more v (Order new) job there = inr there
ordered_more v (Grant new run end) job there = there
ordered_more v (Start r marks) job there = there
ordered_more v (Mark marks) job there = there
ordered_more v (Extend r until) job there = there
ordered_more v (Stop r how) job there = there
ordered_more v (Free new state) job there = there
ordered_more v (Finish new outcome) job there = there
ordered_more v (Hold new) job there = there
ordered_more v (Release new) job there = there
ordered_more v (Lengthen new end) job there = there

pub ordered_all : (v : AbstractPool) (ks : List AbstractStep) (job : JobId) → IsIn job v.ordered → IsIn job (view_after_all v ks).ordered
ordered_all v [] job there = there
ordered_all v (k ∷ ks) job there = ordered_all (view_after v k) ks job (ordered_more v k job there)

same_jobs : (v : AbstractPool) (k : AbstractStep) → IsQuiet k → (view_after v k).jobs ≡ v.jobs
same_jobs v (Time moment) quiet = refl
same_jobs v (Acknowledge job) quiet = refl
same_jobs v (Order job) quiet = refl
same_jobs v (Start r marks) quiet = refl
same_jobs v (Mark marks) quiet = refl
same_jobs v (Extend r until) quiet = refl
same_jobs v (Stop r how) quiet = refl
same_jobs v (Queue job core) quiet = absurd quiet
same_jobs v (Grant job run end) quiet = absurd quiet
same_jobs v (Free job state) quiet = absurd quiet
same_jobs v (Finish job outcome) quiet = absurd quiet
same_jobs v (Hold job) quiet = absurd quiet
same_jobs v (Release job) quiet = absurd quiet
same_jobs v (Lengthen job end) quiet = absurd quiet

same_next : (v : AbstractPool) (k : AbstractStep) → IsQuiet k → (view_after v k).next ≡ v.next
same_next v (Time moment) quiet = refl
same_next v (Acknowledge job) quiet = refl
same_next v (Order job) quiet = refl
same_next v (Start r marks) quiet = refl
same_next v (Mark marks) quiet = refl
same_next v (Extend r until) quiet = refl
same_next v (Stop r how) quiet = refl
same_next v (Queue job core) quiet = absurd quiet
same_next v (Grant job run end) quiet = absurd quiet
same_next v (Free job state) quiet = absurd quiet
same_next v (Finish job outcome) quiet = absurd quiet
same_next v (Hold job) quiet = absurd quiet
same_next v (Release job) quiet = absurd quiet
same_next v (Lengthen job end) quiet = absurd quiet

moment_on : (v : AbstractPool) (k : AbstractStep) → IsQuiet k → Allowed v k → v.moment ≤ (view_after v k).moment
moment_on v (Time moment) quiet ok = ok
moment_on v (Acknowledge job) quiet ok = omega arith
moment_on v (Order job) quiet ok = omega arith
moment_on v (Start r marks) quiet ok = omega arith
moment_on v (Mark marks) quiet ok = omega arith
moment_on v (Extend r until) quiet ok = omega arith
moment_on v (Stop r how) quiet ok = omega arith
moment_on v (Queue job core) quiet ok = absurd quiet
moment_on v (Grant job run end) quiet ok = absurd quiet
moment_on v (Free job state) quiet ok = absurd quiet
moment_on v (Finish job outcome) quiet ok = absurd quiet
moment_on v (Hold job) quiet ok = absurd quiet
moment_on v (Release job) quiet ok = absurd quiet
moment_on v (Lengthen job end) quiet ok = absurd quiet

pub quiet_grows : (v : AbstractPool) (k : AbstractStep) → IsQuiet k → Allowed v k → Grows v (view_after v k)
quiet_grows v k quiet ok = record {
  jobs = same_jobs v k quiet;
  next = same_next v k quiet;
  moment = moment_on v k quiet ok;
  dead = λ run h. step_dead v k run ok h;
  reports = reports_more v k;
  ordered = ordered_more v k;
}

-- ---- it is made
of_job_backed : (v : AbstractPool) (grants : List JobRun) (k : AbstractStep) → IsOfJob k → IsBacked v grants k
of_job_backed v grants (Grant job run end) of = tt
of_job_backed v grants (Free job state) of = tt
of_job_backed v grants (Finish job outcome) of = tt
of_job_backed v grants (Hold job) of = tt
of_job_backed v grants (Release job) of = tt
of_job_backed v grants (Lengthen job end) of = tt
of_job_backed v grants (Time moment) of = tt
of_job_backed v grants (Queue job core) of = tt
of_job_backed v grants (Acknowledge job) of = tt
of_job_backed v grants (Order job) of = tt
of_job_backed v grants (Start r marks) of = absurd of
of_job_backed v grants (Mark marks) of = absurd of
of_job_backed v grants (Extend r until) of = tt
of_job_backed v grants (Stop r how) of = tt

submission_backed : (v : AbstractPool) (grants : List JobRun) (jobs : List NewJob) → AreNew v.jobs jobs → AllBacked v grants (map queue_step jobs)
submission_backed v grants [] new = tt
submission_backed v grants (j ∷ js) new = (new.0, tt, submission_backed (view_after v (queue_step j)) grants js new.1)

pub pending_backed : (v : AbstractPool) (grants : List JobRun) (pending : Option Change) → IfSome pending (CanBeMade v) → AllBacked v grants (pending_steps pending)
pending_backed v grants None can = tt
pending_backed v grants (Some Hidden) can = tt
pending_backed v grants (Some (Submission jobs)) can = submission_backed v grants jobs can
pending_backed v grants (Some (OfJob step)) can = (can.1, of_job_backed v grants step can.0, tt)
pending_backed v grants (Some (Removal job)) can = tt

-- a job that is marked as one to be removed when it is made was ordered to be
pub removed_ordered : (v : AbstractPool) (pending : Option Change) (removals : List JobId) → IfSome pending (CanBeMade v) → ((job : JobId) → IsIn job removals → IsIn job v.ordered)
    → (job : JobId) → IsIn job (removals_with pending removals) → IsIn job v.ordered
removed_ordered v None removals can old job there = old job there
removed_ordered v (Some Hidden) removals can old job there = old job there
removed_ordered v (Some (Submission jobs)) removals can old job there = old job there
removed_ordered v (Some (OfJob step)) removals can old job there = old job there
removed_ordered v (Some (Removal new)) removals can old job (inl same) = subst (λ j. IsIn j v.ordered) (sym same) can
removed_ordered v (Some (Removal new)) removals can old job (inr there) = old job there
