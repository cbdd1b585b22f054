-- Which job's periodic expressions are looked at next.
use Rattle.std.specs.Prelude.{◌≡◌, ◌≤◌, ◌&&◌, ℕ, Bool, true, false, List, Option, Some, None, is_some, MatchOption, if◌then◌else◌}
use Rattle.std.specs.Map.{lookup}
use Rattle.std.specs.Ordering.{is_gt}
use Rattle.ad_tree.specs.Ad.{Attributes}
use Rattle.claim_id.specs.declared.numbers.JobId.{JobId}
use Rattle.queue_tx.specs.declared.key.Key.{Key}
use Rattle.queue_tx.specs.declared.key.Key.TheVariants.{Header, Proc}
use Rattle.queue_tx.specs.Keys.{key_cmp, is_above, same_key}
use Rattle.queue_tx.specs.Periodic.{has_periodic, IsPeriodic}
use Rattle.queue_tx.specs.Queues.{KeyedAds, ad_at}
use Rattle.schedd_plan.specs.TickTable.{is_after}
use Rattle.schedd_state.specs.Schedds.{ScheddValue}

-- ---- when a look is due
abbrev pub is_unchecked_since : Option ℕ → ℕ → ℕ → Bool
is_unchecked_since None seconds reading = true
is_unchecked_since (Some last) seconds reading = is_after last seconds reading

-- none since the pool opened or the schedd came back, or none for a while
abbrev pub is_unchecked : ScheddValue → JobId → ℕ → Bool
is_unchecked v job reading = is_unchecked_since (lookup (same_key (Proc job)) v.checked)
    v.settings.periodic_interval reading

abbrev pub is_check_due_by : Option Attributes → ScheddValue → JobId → ℕ → Bool
is_check_due_by None v job reading = false
is_check_due_by (Some attributes) v job reading =
    has_periodic attributes && is_unchecked v job reading

abbrev pub is_check_due : ScheddValue → KeyedAds → JobId → ℕ → Bool
is_check_due v q job reading = is_check_due_by (ad_at (Proc job) q) v job reading

-- ---- the job whose look is due first
-- when a job was looked at last
abbrev pub checked_at : List (Key × ℕ) → Key → Option ℕ
checked_at looks key = lookup (same_key key) looks

-- a job that was never looked at comes before one that was, else the one of the earlier look
abbrev pub IsNoLater : Option ℕ → Option ℕ → Type 0
IsNoLater None other = Unit {0}
IsNoLater (Some at) None = ⊥
IsNoLater (Some at) (Some other) = at ≤ other

-- a look at the job is due, and at no job that comes before it
pub record IsDueFirst (v : ScheddValue) (q : KeyedAds) (reading : ℕ) (job : JobId) : Type 0 where
  pub due : is_check_due v q job reading ≡ true
  pub first : (other : JobId) → is_check_due v q other reading ≡ true
      → IsNoLater (checked_at v.checked (Proc job)) (checked_at v.checked (Proc other))

-- that job, or none where no look is due
abbrev pub IsFirstDue : ScheddValue → KeyedAds → ℕ → Option JobId → Type 0
IsFirstDue v q reading found = MatchOption found
    ((job : JobId) → is_check_due v q job reading ≡ false)
    (λ job. IsDueFirst v q reading job)

-- ---- how far all jobs were looked at
abbrev pub was_checked : List (Key × ℕ) → Key → Bool
was_checked looks key = is_some (checked_at looks key)

-- each job with a periodic expression up to a key was looked at
abbrev pub IsPassedTo : KeyedAds → List (Key × ℕ) → Option Key → Type 0
IsPassedTo q looks passed = (key : Key)
    → IsPeriodic q key → is_above passed key ≡ false → was_checked looks key ≡ true

abbrev pub IsPassed : KeyedAds → ScheddValue → Type 0
IsPassed q v = IsPassedTo q v.checked v.passed

-- the first job with a periodic expression that is above that key
pub record IsNextPeriodic (q : KeyedAds) (passed : Option Key) (key : Key) : Type 0 where
  pub periodic : IsPeriodic q key
  pub above : is_above passed key ≡ true
  pub first : (other : Key) → IsPeriodic q other → is_above passed other ≡ true
      → is_gt (key_cmp key other) ≡ false

-- it was not looked at
abbrev pub IsFar : KeyedAds → List (Key × ℕ) → Option Key → Type 0
IsFar q looks passed = (key : Key) → IsNextPeriodic q passed key → was_checked looks key ≡ false

-- it was, or else none such is given
abbrev pub NextChecked : KeyedAds → List (Key × ℕ) → Option Key → Option Key → Type 0
NextChecked q looks passed found = MatchOption found
    (IsFar q looks passed)
    (λ key. IsNextPeriodic q passed key × (was_checked looks key ≡ true))

-- where all were looked at up to one key, they were up to another, and that is far
pub record Passes (q : KeyedAds) (looks : List (Key × ℕ)) (old new : Option Key) : Type 0 where
  pub passed : IsPassedTo q looks old → IsPassedTo q looks new
  pub far : IsFar q looks new

-- a job has come into the queue under a key, or several at or above it
abbrev pub with_new : Key → ScheddValue → ScheddValue
with_new key v = record v { passed = if is_above v.passed key then v.passed else None }

-- ---- by keys
abbrev pub job_of_key : Option Key → Option JobId
job_of_key None = None
job_of_key (Some Header) = None
job_of_key (Some (Proc job)) = Some job

-- a job with a periodic expression that was not looked at
abbrev pub IsFresh : KeyedAds → List (Key × ℕ) → Key → Type 0
IsFresh q looks key = IsPeriodic q key × (was_checked looks key ≡ false)

-- a look at the job under a key is due
abbrev pub IsDueKey : KeyedAds → List (Key × ℕ) → ℕ → ℕ → Key → Type 0
IsDueKey q looks seconds reading key =
    IsPeriodic q key × (is_unchecked_since (checked_at looks key) seconds reading ≡ true)

pub record IsDueKeyFirst (q : KeyedAds) (looks : List (Key × ℕ)) (seconds reading : ℕ) (key : Key)
    : Type 0 where
  pub due : IsDueKey q looks seconds reading key
  pub first : (other : Key) → IsDueKey q looks seconds reading other
      → IsNoLater (checked_at looks key) (checked_at looks other)

abbrev pub FirstDueKey : KeyedAds → List (Key × ℕ) → ℕ → ℕ → Option Key → Type 0
FirstDueKey q looks seconds reading found = MatchOption found
    ((key : Key) → IsDueKey q looks seconds reading key → ⊥)
    (λ key. IsDueKeyFirst q looks seconds reading key)

-- of the jobs that were looked at, and have a periodic expression, the one of the earliest look
pub record IsOldestPeriodic (q : KeyedAds) (looks : List (Key × ℕ)) (found : Key × ℕ) : Type 0 where
  pub periodic : IsPeriodic q found.0
  pub at : checked_at looks found.0 ≡ Some found.1
  pub first : (key : Key) (at : ℕ) → IsPeriodic q key → checked_at looks key ≡ Some at
      → found.1 ≤ at

abbrev pub OldestPeriodic : KeyedAds → List (Key × ℕ) → Option (Key × ℕ) → Type 0
OldestPeriodic q looks found = MatchOption found
    ((key : Key) → IsPeriodic q key → was_checked looks key ≡ false)
    (λ f. IsOldestPeriodic q looks f)

-- it, where a look at it is due again
pub record IsAgain (q : KeyedAds) (looks : List (Key × ℕ)) (seconds reading : ℕ) (key : Key)
    : Type 0 where
  pub at : ℕ
  pub oldest : IsOldestPeriodic q looks (key, at)
  pub due : is_after at seconds reading ≡ true

abbrev pub FirstAgain : KeyedAds → List (Key × ℕ) → ℕ → ℕ → Option Key → Type 0
FirstAgain q looks seconds reading found = MatchOption found
    ((key : Key) (at : ℕ) → IsPeriodic q key → checked_at looks key ≡ Some at
    → is_after at seconds reading ≡ false)
    (λ key. IsAgain q looks seconds reading key)
