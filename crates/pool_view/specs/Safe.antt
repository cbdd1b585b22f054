-- When an abstract pool is safe.
use Rattle.std.specs.Prelude.{◌≡◌, ◌⊎◌, ℕ, ◌<◌, Some, IsSome, IfSome}
use Rattle.pool_view.specs.Ads.{IsMatch, core_of}
use Rattle.claim_id.specs.declared.numbers.JobId.{JobId}
use Rattle.pool_view.specs.AbstractStep.{IsLeased}
use Rattle.pool_view.specs.declared.job.State.{State}
use Rattle.pool_view.specs.declared.run.Run.{Run}
use Rattle.pool_view.specs.declared.job.Outcome.TheVariants.{EndedBy, Removed}
use Rattle.pool_view.specs.declared.job.State.TheVariants.{Idle, Held, Under, Left, Done}
use Rattle.pool_view.specs.AbstractPool.{AbstractPool, IsIn, IsSpent, HasCore}

-- the run was started by a match of its slot's ad and its job's
pub record IsMatched (v : AbstractPool) (r : Run) : Type 0 where
  pub match : IsMatch r.judged
  pub slot_ad : v.slots r.slot ≡ Some r.judged.slot
  pub job_ad : HasCore v r.job (core_of r.judged.job)

-- a job that has left the queue did so by an end that its machine said, or by an order
abbrev pub IsAccounted : AbstractPool → JobId → State → Type 0
IsAccounted v job (Done (EndedBy run how)) =
    IsIn (record { run = run; job = job; how = how }) v.reports
IsAccounted v job (Done Removed) = IsIn job v.ordered
IsAccounted v job Idle = Unit {0}
IsAccounted v job Held = Unit {0}
IsAccounted v job (Under run end) = Unit {0}
IsAccounted v job Left = Unit {0}

-- every run's slot and job match
abbrev pub AreRunsMatched : AbstractPool → Type 0
AreRunsMatched v = (r : Run) → IsIn r v.runs → IsMatched v r

-- two runs have one slot or one number
abbrev pub Shares : Run → Run → Type 0
Shares r s = (r.slot ≡ s.slot) ⊎ (r.run.number ≡ s.run.number)

-- no two runs do
abbrev pub HasOneRunPerSlot : AbstractPool → Type 0
HasOneRunPerSlot v = (r s : Run) → IsIn r v.runs → IsIn s v.runs → Shares r s → r ≡ s

-- two runs are of one job and have leases that aren't past at a moment
abbrev pub Competes : ℕ → Run → Run → Type 0
Competes moment r s = (r.job ≡ s.job) × (moment < r.until) × (moment < s.until)

-- no two runs do
abbrev pub HasOneLeasePerJob : AbstractPool → Type 0
HasOneLeasePerJob v = (r s : Run) → IsIn r v.runs → IsIn s v.runs → Competes v.moment r s → r ≡ s

-- an acknowledged job is in the queue, or has left it
abbrev pub AreAcknowledgedKept : AbstractPool → Type 0
AreAcknowledgedKept v = (job : JobId) → IsIn job v.acked → IsSome (v.jobs job)

-- a job leaves the queue only by an end that was said, or by an order
abbrev pub AreEndingsSaid : AbstractPool → Type 0
AreEndingsSaid v = (job : JobId) → IfSome (v.jobs job) (λ e. IsAccounted v job e.state)

pub record Safe (v : AbstractPool) : Type 0 where
  pub matched : AreRunsMatched v
  pub one_run_per_slot : HasOneRunPerSlot v
  pub one_lease_per_job : HasOneLeasePerJob v
  pub acknowledged_kept : AreAcknowledgedKept v
  pub endings_said : AreEndingsSaid v

-- each run's lease is past, or ends by the lease of its job, which is under that run
abbrev pub RunsLeased : AbstractPool → Type 0
RunsLeased v = (r : Run) → IsIn r v.runs → IsLeased v r.job r.run r.until

-- no run that is there may start again
abbrev pub RunsSpent : AbstractPool → Type 0
RunsSpent v = (r : Run) → IsIn r v.runs → IsSpent v r.run
