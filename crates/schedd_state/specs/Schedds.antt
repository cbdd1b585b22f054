-- What a schedd keeps, and what it answers.
use Rattle.std.specs.Prelude.{◌≡◌, ℕ, Bool, List, [], Option, Some, None}
use Rattle.claim_id.specs.declared.numbers.JobId.{JobId}
use Rattle.pool_mail.specs.declared.mail.Mail.{Mail}
use Rattle.pool_mail.specs.declared.settings.Settings.{Settings}
use Rattle.queue_tx.specs.declared.key.Key.{Key}
use Rattle.queue_tx.specs.Queues.{KeyedAds}
use Rattle.schedd_plan.specs.declared.plan.JobPlan.{JobPlan}
use Rattle.schedd_state.specs.declared.answer.ScheddStep.{ScheddStep}
use Rattle.schedd_plan.specs.declared.claims.KeptClaim.{KeptClaim}
use Rattle.schedd_plan.specs.declared.runs.KeptRun.{KeptRun}
use Rattle.schedd_plan.specs.KeptClaims.{engages}
use Rattle.schedd_state.specs.Searches.{AreUnder}
use Rattle.schedd_state.specs.Reopening.{first_run}

pub record ScheddValue : Type 0 where
  pub settings : Settings
  pub next_run : ℕ  -- the number of the run that is granted next
  pub left : List JobId  -- the jobs that an earlier boot of the pool left, in order
  pub claims : List KeptClaim  -- in the order in which they came
  pub runs : List KeptRun  -- the jobs under runs of this boot of the pool, in order of the jobs
  pub checked : List (Key × ℕ)  -- when the periodic expressions of a job were looked at last
  pub passed : Option Key  -- each job with one up to this key was looked at
  pub waiting : Option JobPlan  -- what is to be logged

-- the schedd of a pool that opens with a queue, of which these jobs are under a claim
abbrev pub opened : List JobId → KeyedAds → Settings → ScheddValue
opened left q set = record {
  settings = set;
  next_run = first_run q;
  left = left;
  claims = [];
  runs = [];
  checked = [];
  passed = None;
  waiting = None;
}

abbrev pub IsOpened : KeyedAds → Settings → ScheddValue → Type 0
IsOpened q set v = AreUnder q None v.left × (v ≡ opened v.left q set)

-- a claim that is asked for or ready names the job
abbrev pub engages_job : ScheddValue → JobId → Bool
engages_job v job = engages job v.claims

-- ---- a schedd and an event
-- the schedd then, and what is sent and to be logged
pub record After : Type 0 where
  pub schedd : ScheddValue
  pub step : ScheddStep

abbrev pub says : List Mail → ScheddStep
says mails = record { mails = mails; plan = None }

abbrev pub nothing_done : ScheddStep
nothing_done = says []

abbrev pub plans : JobPlan → ScheddStep
plans p = record { mails = []; plan = Some p }

-- nothing is sent or logged
abbrev pub becomes : ScheddValue → After
becomes v = record { schedd = v; step = nothing_done }

-- a plan is to be logged
abbrev pub waits : JobPlan → ScheddValue → After
waits p v = record { schedd = record v { waiting = Some p }; step = plans p }

abbrev pub waits_for : Option JobPlan → ScheddValue → After
waits_for None v = becomes v
waits_for (Some p) v = waits p v

-- ---- a crash loses the claims
abbrev pub crashed : ScheddValue → ScheddValue
crashed v = record v { claims = [] }
