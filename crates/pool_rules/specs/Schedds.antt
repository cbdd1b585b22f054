-- What events of the schedd make of a pool.
use Rattle.std.specs.Prelude.{◌≡◌, ℕ, Bool, List, [], ◌∷◌, Option, Some, None}
use Rattle.claim_id.specs.declared.numbers.JobId.{JobId}
use Rattle.pool_parts.specs.declared.answer.Stepped.{Stepped}
use Rattle.pool_state.specs.declared.state.PoolState.{PoolState}
use Rattle.pool_mail.specs.declared.mail.Mail.{Mail}
use Rattle.pool_parts.specs.Plans.{ordered_job}
use Rattle.schedd_state.specs.declared.answer.ScheddStep.{ScheddStep}
use Rattle.queue_tx.specs.declared.key.Key.{Key}
use Rattle.schedd_core.specs.Checks.{after_check}
use Rattle.schedd_state.specs.DueChecks.{Passes}
use Rattle.schedd_core.specs.Rows.{after_mail}
use Rattle.schedd_state.specs.Schedds.{ScheddValue, After}
use Rattle.schedd_core.specs.Ticks.{IsTicked}
use Rattle.pool_rules.specs.Deeds.{schedd_acts, schedd_answer, ordered_by, receives}

-- time passes for the schedd
pub record ScheddTicks (s : PoolState) (reading : ℕ) (new : PoolState) (r : Stepped)
    : Type 0 where
  pub schedd : ScheddValue
  pub step : ScheddStep
  pub ticked : IsTicked s.schedd s.queue reading schedd step
  pub pool : new ≡ schedd_acts schedd step [] s
  pub answer : r ≡ schedd_answer s step

-- a job, perhaps none, as a list
abbrev pub jobs_in : Option JobId → List JobId
jobs_in None = []
jobs_in (Some job) = job ∷ []

-- The schedd looks at the periodic expressions of a job: one of them may order it to be removed.
-- The mark up to which all jobs were looked at moves on.
abbrev pub after_look : After → Option Key → PoolState → PoolState
after_look a mark s = schedd_acts (record a.schedd { passed = mark }) a.step
    (jobs_in (ordered_job a.step.plan)) s

pub record IsLook (s : PoolState) (a : After) (new : PoolState) (r : Stepped) : Type 0 where
  pub mark : Option Key
  pub passes : Passes s.queue a.schedd.checked a.schedd.passed mark
  pub pool : new ≡ after_look a mark s
  pub answer : r ≡ schedd_answer s a.step

abbrev pub ScheddLooks : PoolState → JobId → ℕ → PoolState → Stepped → Type 0
ScheddLooks s job reading new r = IsLook s (after_check s.schedd s.queue job reading) new r

-- the schedd receives the mail of a number; `known` says whether the pool has or had the job that
-- the mail orders to be removed
abbrev pub after_receipt_of : ℕ → Mail → Bool → After → PoolState → PoolState
after_receipt_of index m known a s =
    receives index (schedd_acts a.schedd a.step (ordered_by m known) s)

pub record ScheddReceives (s : PoolState) (index : ℕ) (m : Mail) (known : Bool) (reading : ℕ)
    (new : PoolState) (r : Stepped) : Type 0 where
  pub pool : new ≡ after_receipt_of index m known (after_mail s.schedd s.queue m reading) s
  pub answer : r ≡ schedd_answer s (after_mail s.schedd s.queue m reading).step
