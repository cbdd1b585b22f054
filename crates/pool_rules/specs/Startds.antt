-- What events of startds make of a pool.
use Rattle.std.specs.Prelude.{◌≡◌, ℕ, List, [], ◌∷◌, slice_get, IsSomeAnd, Option, Some, None, if◌then◌else◌}
use Rattle.claim_id.specs.declared.numbers.JobId.{JobId}
use Rattle.claim_id.specs.declared.numbers.RunNo.{RunNo}
use Rattle.pool_parts.specs.declared.answer.Stepped.{Stepped}
use Rattle.pool_mail.specs.declared.mail.Mail.{Mail}
use Rattle.pool_mail.specs.declared.mail.Mail.TheVariants as mail
use Rattle.pool_state.specs.declared.state.PoolState.{PoolState}
use Rattle.pool_view.specs.declared.run.EndReport.{EndReport}
use Rattle.startd_slot.specs.declared.held.Running.{Running}
use Rattle.startd_slot.specs.declared.slot.Slot.{Slot}
use Rattle.startd_slot.specs.SlotStates.{running_of, runs_on}
use Rattle.startd_core.specs.Startds.{StartdValue, After}
use Rattle.pool_rules.specs.Deeds.{receives, startd_acts, startd_answer}

-- ---- the end of a run
abbrev pub job_running : Option Running → Option JobId
job_running None = None
job_running (Some r) = Some r.job

abbrev pub job_on : Slot → Option JobId
job_on s = job_running (running_of s.state)

-- the job of a run that is on a slot
abbrev pub job_of_run : RunNo → List Slot → Option JobId
job_of_run run [] = None
job_of_run run (s ∷ ss) = if runs_on s.state run then job_on s else job_of_run run ss

abbrev pub report_in : JobId → Mail → Option EndReport
report_in job (mail.Ended run how) = Some (record { run = run; job = job; how = how })
report_in job m = None

-- the end of a job's run that the first of mails says
abbrev pub report_of : Option JobId → List Mail → Option EndReport
report_of None mails = None
report_of (Some job) [] = None
report_of (Some job) (m ∷ ms) = report_in job m

abbrev pub reports_in : Option EndReport → List EndReport
reports_in None = []
reports_in (Some report) = report ∷ []

-- ---- what events make of a pool
-- what an event makes of the startd of a machine, and of the pool by that
pub record IsStartdStep (machine : ℕ) (a : After) (ends : List EndReport) (s new : PoolState)
    (r : Stepped) : Type 0 where
  pub pool : new ≡ startd_acts machine a.startd a.step ends s
  pub answer : r ≡ startd_answer a.step

abbrev pub StartdDoes : ℕ → (StartdValue → After) → PoolState → PoolState → Stepped → Type 0
StartdDoes machine event s new r = IsSomeAnd (slice_get s.machines machine)
    (λ v. IsStartdStep machine (event v) [] s new r)

-- with the mail of a number, which is received
pub record IsReceivedStep (machine index : ℕ) (a : After) (s new : PoolState) (r : Stepped)
    : Type 0 where
  pub pool : new ≡ receives index (startd_acts machine a.startd a.step [] s)
  pub answer : r ≡ startd_answer a.step

abbrev pub StartdReceives
    : ℕ → ℕ → (StartdValue → After) → PoolState → PoolState → Stepped → Type 0
StartdReceives machine index event s new r = IsSomeAnd (slice_get s.machines machine)
    (λ v. IsReceivedStep machine index (event v) s new r)

abbrev pub ends_after : RunNo → StartdValue → After → List EndReport
ends_after run v a = reports_in (report_of (job_of_run run v.slots) a.step.mails)

-- with the end of a run, which is said of its job
abbrev pub StartdEnds
    : ℕ → RunNo → (StartdValue → After) → PoolState → PoolState → Stepped → Type 0
StartdEnds machine run event s new r = IsSomeAnd (slice_get s.machines machine)
    (λ v. IsStartdStep machine (event v) (ends_after run v (event v)) s new r)
