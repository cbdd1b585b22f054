-- What is seen of a pool.
use Rattle.std.specs.Prelude.{◌≡◌, ℕ, ◌+◌, ◌≤◌, Bool, true, false, List, [], ◌∷◌, length, count_by, not, Option, Some, None, IsSome, IsSomeAnd, IfSome, if◌then◌else◌}
use Rattle.claim_id.specs.declared.numbers.ClaimNo.{ClaimNo}
use Rattle.claim_id.specs.declared.numbers.JobId.{JobId}
use Rattle.claim_id.specs.declared.numbers.RunNo.{RunNo}
use Rattle.claim_id.specs.declared.numbers.SlotId.{SlotId}
use Rattle.pool_view.specs.Numbers.{same_job, same_slot}
use Rattle.thin_pool.specs.declared.job.Job.{Job}
use Rattle.thin_pool.specs.declared.job.TheConstants.{MAX_JOBS, LAST_CLUSTER_WITHOUT_JOBS}
use Rattle.thin_pool.specs.declared.job.Phase.{Phase}
use Rattle.thin_pool.specs.declared.job.Phase.TheVariants.{Idle, Running, Held, Finished}
use Rattle.thin_pool.specs.declared.job.SlotRun.{SlotRun}
use Rattle.thin_pool.specs.declared.slot.PoolSlot.{PoolSlot}

pub record PoolValue : Type 0 where
  pub slots : List PoolSlot
  pub jobs : List (JobId × Job)  -- in the order in which they were submitted
  pub runs : List (SlotId × SlotRun)  -- of the slots that have one
  pub last_cluster : ℕ  -- the number of the last submission's cluster, 0 at first
  pub started : ℕ  -- how many runs were started
  pub latest : ℕ  -- the greatest reading, 0 at first
  pub closed : Bool

abbrev pub pool_value : List PoolSlot → List (JobId × Job) → List (SlotId × SlotRun) → ℕ → ℕ → ℕ
    → Bool → PoolValue
pool_value slots jobs runs last_cluster started latest closed = record {
  slots = slots;
  jobs = jobs;
  runs = runs;
  last_cluster = last_cluster;
  started = started;
  latest = latest;
  closed = closed;
}

-- ---- finite maps as lists of pairs, of which the first with a key counts

abbrev pub value_at : {K A : Type 0} → (K → K → Bool) → K → List (K × A) → Option A
value_at same k [] = None
value_at same k (e ∷ es) = if same k e.0 then Some e.1 else value_at same k es

-- no key is met twice
abbrev pub HasKeysOnce : {K A : Type 0} → (K → K → Bool) → List (K × A) → Type 0
HasKeysOnce same [] = Unit {0}
HasKeysOnce same (e ∷ es) = (value_at same e.0 es ≡ None) × HasKeysOnce same es

abbrev pub job_at : JobId → List (JobId × Job) → Option Job
job_at job jobs = value_at same_job job jobs

abbrev pub run_at : SlotId → List (SlotId × SlotRun) → Option SlotRun
run_at slot runs = value_at same_slot slot runs

-- the first slot of that number
abbrev pub slot_at : SlotId → List PoolSlot → Option PoolSlot
slot_at id [] = None
slot_at id (s ∷ ss) = if same_slot id s.slot then Some s else slot_at id ss

-- no slot has the number of an earlier one
abbrev pub AreNumberedOnce : List PoolSlot → Type 0
AreNumberedOnce [] = Unit {0}
AreNumberedOnce (s ∷ ss) = (slot_at s.slot ss ≡ None) × AreNumberedOnce ss

-- ---- what always holds of a pool

abbrev pub is_idle : Phase → Bool
is_idle Idle = true
is_idle (Running run until) = false
is_idle (Held run) = false
is_idle (Finished run end) = false

abbrev pub has_started : JobId × Job → Bool
has_started e = not (is_idle e.1.phase)

-- Each slot has one claim, which is held all the time.
abbrev pub claim_of : SlotId → ClaimNo
claim_of slot = record { slot = slot; boot = 0; seq = 1 }

-- a run of a slot, by its number
abbrev pub run_no : SlotId → ℕ → RunNo
run_no slot number = record { claim = claim_of slot; number = number }

-- the job's run is that of its slot
abbrev pub HasItsRun : JobId → Phase → List (SlotId × SlotRun) → Type 0
HasItsRun job Idle runs = Unit {0}
HasItsRun job (Running run until) runs = IsSomeAnd (run_at run.claim.slot runs)
    (λ r. (r.job ≡ job) × (run_no run.claim.slot r.number ≡ run) × (r.until ≡ until))
HasItsRun job (Held run) runs = Unit {0}
HasItsRun job (Finished run end) runs = Unit {0}

pub record IsConsistent (p : PoolValue) : Type 0 where
  pub jobs_once : HasKeysOnce same_job p.jobs
  pub runs_once : HasKeysOnce same_slot p.runs
  -- a run's slot is one of the pool's
  pub placed : (slot : SlotId) → IsSome (run_at slot p.runs) → IsSome (slot_at slot p.slots)
  pub few : length p.jobs ≤ MAX_JOBS
  -- clusters are numbered from 1, in the order of their submission
  pub last_cluster_few : p.last_cluster ≤ LAST_CLUSTER_WITHOUT_JOBS + length p.jobs
  pub numbered : (job : JobId) → IsSome (job_at job p.jobs) → job.cluster ≤ p.last_cluster
  -- each job starts once at most
  pub counted : p.started ≡ count_by has_started p.jobs
  pub run_numbers : (slot : SlotId) → IfSome (run_at slot p.runs) (λ r. r.number ≤ p.started)
  pub its_runs : (job : JobId) → IfSome (job_at job p.jobs) (λ j. HasItsRun job j.phase p.runs)
