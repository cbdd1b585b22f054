-- The protocol of a pool: the abstract pool, with what of the mails and of the queue log its safety
-- rests on.
use Rattle.std.specs.Prelude.{◌≡◌, ℕ, ◌<◌, List, [], ◌∷◌, map, max, Option, Some, None, IsSomeAnd, option_map}
use Rattle.pool_view.specs.Ads.{Core}
use Rattle.claim_id.specs.declared.numbers.JobId.{JobId}
use Rattle.claim_id.specs.declared.numbers.SlotId.{SlotId}
use Rattle.claim_id.specs.declared.numbers.RunNo.{RunNo}
use Rattle.claim_id.specs.declared.numbers.ClaimNo.{ClaimNo}
use Rattle.pool_view.specs.Numbers.{same_job, same_slot}
use Rattle.pool_view.specs.declared.job.Entry.{Entry}
use Rattle.pool_view.specs.declared.mark.HeldClaim.{HeldClaim}
use Rattle.pool_view.specs.declared.mark.SlotMark.{SlotMark}
use Rattle.pool_view.specs.declared.job.State.TheVariants.{Idle}
use Rattle.pool_view.specs.AbstractPool.{Marks, AbstractPool, set}
use Rattle.pool_view.specs.AbstractStep.{AbstractStep, Queue, view_after}

-- a run and the job that it is of
pub record JobRun : Type 0 where
  pub run : RunNo
  pub job : JobId

-- what an Activate or an Alive told a startd: that a run of a job, whose ad has that core, may last
-- until then
pub record Lease : Type 0 where
  pub run : RunNo
  pub job : JobId
  pub core : Core
  pub until : ℕ

-- a job of a submission
pub record NewJob : Type 0 where
  pub job : JobId
  pub core : Core

-- what an unfinished transaction will change once it is logged
pub data Change : Type 0 where
  -- attributes that the abstract pool doesn't show
  Hidden : Change
  -- the jobs of a submission
  Submission : (jobs : List NewJob) → Change
  -- the state of one job
  OfJob : (step : AbstractStep) → Change
  -- a job is marked as one to be removed, while a run of it may be there
  Removal : (job : JobId) → Change

pub record Protocol : Type 0 where
  pub pool : AbstractPool
  pub grants : List JobRun  -- every grant that was logged
  pub leases : List Lease  -- those of every Activate and Alive that was sent
  pub gone : List RunNo  -- the run of every Gone that was sent
  pub removals : List JobId  -- the jobs that the queue as logged marks as to be removed
  pub pending : Option Change  -- the unfinished transaction

-- ---- a slot's mark
abbrev pub HasMark : Marks → SlotId → (SlotMark → Type 0) → Type 0
HasMark marks slot P = IsSomeAnd (marks slot) P

-- the claim is held
abbrev pub IsHeldIn : SlotMark → ClaimNo → Type 0
IsHeldIn m claim = IsSomeAnd m.held (λ h. h.claim ≡ claim)

-- by its slot
abbrev pub Holds : Marks → ClaimNo → Type 0
Holds marks claim = HasMark marks claim.slot (λ m. IsHeldIn m claim)

-- the run's claim is held, and has used only numbers below the run's
abbrev pub IsHeldBefore : SlotMark → RunNo → Type 0
IsHeldBefore m run = IsSomeAnd m.held (λ h. (h.claim ≡ run.claim) × (h.last < run.number))

abbrev pub HoldsBefore : Marks → RunNo → Type 0
HoldsBefore marks run = HasMark marks run.claim.slot (λ m. IsHeldBefore m run)

-- the marks with a change of one slot's
abbrev pub marks_with : Marks → SlotId → (SlotMark → SlotMark) → Marks
marks_with marks slot change = set same_slot marks slot (option_map change (marks slot))

-- the mark of a slot that holds a claim from now on
abbrev pub mark_with_claim : ClaimNo → SlotMark → SlotMark
mark_with_claim claim m = record m { held = Some (record { claim = claim; last = 0 }) }

-- whose claim uses a number
abbrev pub claim_with_number : ℕ → HeldClaim → HeldClaim
claim_with_number number h = record h { last = max h.last number }

abbrev pub mark_with_number : ℕ → SlotMark → SlotMark
mark_with_number number m = record m { held = option_map (claim_with_number number) m.held }

-- whose claim ends
abbrev pub mark_after_claim : ClaimNo → SlotMark → SlotMark
mark_after_claim claim m = record m { ended = claim.seq; held = None }

-- whose machine boots
abbrev pub mark_after_boot : ℕ → SlotMark → SlotMark
mark_after_boot boot m = record { boot = boot; ended = 0; held = None }

-- ---- lists of steps
-- the pool after all of them
abbrev pub view_after_all : AbstractPool → List AbstractStep → AbstractPool
view_after_all v [] = v
view_after_all v (k ∷ ks) = view_after_all (view_after v k) ks

abbrev pub queue_step : NewJob → AbstractStep
queue_step j = Queue j.job j.core

-- the jobs with a new one, which is idle
abbrev pub jobs_with : (JobId → Option Entry) → NewJob → JobId → Option Entry
jobs_with jobs j = set same_job jobs j.job (Some (record { core = j.core; state = Idle }))

-- none of the jobs is there, and no two of them are one
abbrev pub AreNew : (JobId → Option Entry) → List NewJob → Type 0
AreNew jobs [] = Unit {0}
AreNew jobs (j ∷ js) = (jobs j.job ≡ None) × AreNew (jobs_with jobs j) js

abbrev pub change_steps : Change → List AbstractStep
change_steps Hidden = []
change_steps (Submission jobs) = map queue_step jobs
change_steps (OfJob step) = step ∷ []
change_steps (Removal job) = []

abbrev pub pending_steps : Option Change → List AbstractStep
pending_steps None = []
pending_steps (Some change) = change_steps change
