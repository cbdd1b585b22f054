-- Which events a pool accepts, what it answers, and what they change.
use Rattle.std.specs.Prelude.{ℕ, ◌+◌, List, [], ◌∷◌, ◌++◌, length, map, Bool, true, false, not, ◌&&◌, ◌||◌, ◌==◌, nat_lt, max, if◌then◌else◌, Option, Some, None, is_some}
use Rattle.std.specs.List.{filter_map}
use Rattle.ad_tree.specs.Ad.{Attributes}
use Rattle.ad_eval.specs.Judgement.{Judgement, Mismatch}
use Rattle.job_launch.specs.Launches.{launch_of}
use Rattle.claim_id.specs.declared.numbers.RunNo.{RunNo}
use Rattle.claim_id.specs.declared.numbers.JobId.{JobId}
use Rattle.claim_id.specs.declared.numbers.SlotId.{SlotId}
use Rattle.pool_mail.specs.declared.end.End.{End}
use Rattle.pool_mail.specs.declared.end.End.TheVariants.{Exited, Signalled, NotStarted}
use Rattle.pool_view.specs.Numbers.{same_job, same_slot}
use Rattle.thin_pool.specs.declared.answer.Answer.{Answer}
use Rattle.thin_pool.specs.declared.answer.Answer.TheVariants as answer
use Rattle.thin_pool.specs.declared.answer.StepError.{StepError}
use Rattle.thin_pool.specs.declared.answer.StepError.TheVariants.{Closed, Jobs, Occupied, AdMoved, NoRun, NotQuiet}
use Rattle.thin_pool.specs.declared.event.Event.{Event}
use Rattle.thin_pool.specs.declared.event.Event.TheVariants.{Submit, Start, Ended, Close}
use Rattle.thin_pool.specs.declared.job.Job.{Job}
use Rattle.thin_pool.specs.declared.job.TheConstants.{MAX_JOBS, LAST_CLUSTER_WITHOUT_JOBS}
use Rattle.thin_pool.specs.declared.job.Phase.{Phase}
use Rattle.thin_pool.specs.declared.job.Phase.TheVariants.{Idle, Running, Held, Finished}
use Rattle.thin_pool.specs.declared.job.SlotRun.{SlotRun}
use Rattle.thin_pool.specs.declared.slot.PoolSlot.{PoolSlot}
use Rattle.thin_pool.specs.Events.{reading_of}
use Rattle.thin_pool.specs.PoolValue.{PoolValue, is_idle, job_at, run_at, run_no, slot_at}
use Rattle.thin_pool.specs.Sameness.{same_ad, same_ads}

abbrev pub opening_pool : List PoolSlot → PoolValue
opening_pool slots = record {
  slots = slots;
  jobs = [];
  runs = [];
  last_cluster = 0;
  started = 0;
  latest = 0;
  closed = false;
}

-- ---- which events are accepted

abbrev pub is_idle_job : Option Job → Bool
is_idle_job None = false
is_idle_job (Some j) = is_idle j.phase

-- the run that a job has
abbrev pub run_in : Phase → Option RunNo
run_in Idle = None
run_in (Running run until) = Some run
run_in (Held run) = None
run_in (Finished run end) = None

abbrev pub run_of_job : Option Job → Option RunNo
run_of_job None = None
run_of_job (Some j) = run_in j.phase

abbrev pub idle_ad : JobId × Job → Option Attributes
idle_ad e = if is_idle e.1.phase then Some e.1.ad else None

-- the ads of the idle jobs, in the order of their submission
abbrev pub idle_ads : List (JobId × Job) → List Attributes
idle_ads jobs = filter_map idle_ad jobs

abbrev pub slot_ads : List PoolSlot → List Attributes
slot_ads slots = map (λ s. s.ad) slots

-- the match is one of that job's ad and that slot's, at that reading
abbrev pub is_judged : Option Job → Option PoolSlot → ℕ → Judgement → Bool
is_judged None slot reading judged = false
is_judged (Some j) None reading judged = false
is_judged (Some j) (Some s) reading judged =
    (judged.at == reading) && (same_ad judged.job j.ad && same_ad judged.slot s.ad)

-- no idle job was found to match a slot, at that reading
abbrev pub is_settled : PoolValue → ℕ → Mismatch → Bool
is_settled p reading none = (none.at == reading) &&
    (same_ads none.jobs (idle_ads p.jobs) && same_ads none.slots (slot_ads p.slots))

abbrev pub no_slot : SlotId
no_slot = record { machine = 0; slot = 0 }

abbrev pub first_slot : List PoolSlot → SlotId
first_slot [] = no_slot
first_slot (s ∷ ss) = s.slot

abbrev pub has_runs : List (SlotId × SlotRun) → Bool
has_runs [] = false
has_runs (r ∷ rs) = true

abbrev pub start_refusal : PoolValue → JobId → SlotId → Judgement → ℕ → Option StepError
start_refusal p job slot judged reading =
    if is_some (run_at slot p.runs) || not (is_idle_job (job_at job p.jobs)) then Some
    (Occupied slot job)
    else (if is_judged (job_at job p.jobs) (slot_at slot p.slots) reading judged then None else Some
    (AdMoved slot))

abbrev pub close_refusal : PoolValue → ℕ → Mismatch → Option StepError
close_refusal p reading none = if is_settled p reading none
    then (if has_runs p.runs then Some NotQuiet else None) else Some (AdMoved (first_slot p.slots))

-- why a pool that isn't closed refuses an event
abbrev pub open_refusal : PoolValue → Event → Option StepError
open_refusal p (Submit jobs reading) =
    if nat_lt MAX_JOBS (length p.jobs + length jobs) then Some Jobs else None
open_refusal p (Start job slot judged reading) = start_refusal p job slot judged reading
open_refusal p (Ended job end reading) =
    if is_some (run_of_job (job_at job p.jobs)) then None else Some (NoRun job)
open_refusal p (Close reading none) = close_refusal p reading none

-- why the pool refuses an event
abbrev pub refusal : PoolValue → Event → Option StepError
refusal p ev = if p.closed then Some Closed else open_refusal p ev

-- ---- what is answered

-- what the pool answers to an event that it accepts
abbrev pub answer_to : PoolValue → Event → Answer
answer_to p (Submit jobs reading) = answer.Done
answer_to p (Start job slot judged reading) = answer.Launch (launch_of judged.job)
answer_to p (Ended job end reading) = answer.Done
answer_to p (Close reading none) = answer.Done

-- ---- what changes

-- jobs of a cluster, from a proc on
abbrev pub numbered_jobs : ℕ → ℕ → List Attributes → List (JobId × Job)
numbered_jobs cluster proc [] = []
numbered_jobs cluster proc (ad ∷ ads) =
    (record { cluster = cluster; proc = proc }, record { ad = ad; phase = Idle }) ∷ numbered_jobs
    cluster (proc + 1) ads

-- the number of the cluster that the next submission is
abbrev pub next_cluster : PoolValue → ℕ
next_cluster p = p.last_cluster + 1

-- A submission takes the next number, whether it has jobs or not; but the last numbers of all are
-- left for submissions that have some.
abbrev pub takes_number : ℕ → List Attributes → Bool
takes_number last [] = nat_lt last LAST_CLUSTER_WITHOUT_JOBS
takes_number last (ad ∷ ads) = true

-- the number of the last cluster, once these jobs were submitted
abbrev pub last_cluster_after : ℕ → List Attributes → ℕ
last_cluster_after last ads = if takes_number last ads then last + 1 else last

-- the first job of that number stands so
abbrev pub with_phase : JobId → Phase → List (JobId × Job) → List (JobId × Job)
with_phase job phase [] = []
with_phase job phase (e ∷ es) = if same_job job e.0 then (e.0, record e.1 { phase = phase }) ∷ es
    else e ∷ with_phase job phase es

abbrev pub without_run : SlotId → List (SlotId × SlotRun) → List (SlotId × SlotRun)
without_run slot [] = []
without_run slot (r ∷ rs) = if same_slot slot r.0 then rs else r ∷ without_run slot rs

-- a job whose run has ended is finished, and one that couldn't be started is held
abbrev pub phase_after : RunNo → End → Phase
phase_after run (Exited code) = Finished run (Exited code)
phase_after run (Signalled signal) = Finished run (Signalled signal)
phase_after run NotStarted = Held run

abbrev pub with_jobs : PoolValue → List Attributes → PoolValue
with_jobs p ads = record p {
  jobs = p.jobs ++ numbered_jobs (next_cluster p) 0 ads;
  last_cluster = last_cluster_after p.last_cluster ads;
}

-- its lease ends at the reading
abbrev pub with_run : PoolValue → JobId → SlotId → Judgement → ℕ → PoolValue
with_run p job slot judged reading = record p {
  jobs = with_phase job (Running (run_no slot (p.started + 1)) reading) p.jobs;
  runs = p.runs
      ++ (slot, record { job = job; number = p.started + 1; judged = judged; until = reading })
      ∷ [];
  started = p.started + 1;
}

abbrev pub with_end_of : PoolValue → JobId → End → Option RunNo → PoolValue
with_end_of p job end None = p
with_end_of p job end (Some run) = record p {
  jobs = with_phase job (phase_after run end) p.jobs;
  runs = without_run run.claim.slot p.runs;
}

abbrev pub with_end : PoolValue → JobId → End → PoolValue
with_end p job end = with_end_of p job end (run_of_job (job_at job p.jobs))

abbrev pub with_event : PoolValue → Event → PoolValue
with_event p (Submit jobs reading) = with_jobs p jobs
with_event p (Start job slot judged reading) = with_run p job slot judged reading
with_event p (Ended job end reading) = with_end p job end
with_event p (Close reading none) = record p { closed = true }

-- the pool after an event that it accepts
abbrev pub pool_after : PoolValue → Event → PoolValue
pool_after p ev = record (with_event p ev) { latest = max p.latest (reading_of ev) }
