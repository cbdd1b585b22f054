-- The abstract pool: what a pool promises of its jobs and runs, without messages, logs or pending
-- work.
use Rattle.std.specs.Prelude.{◌≡◌, ◌≢◌, ◌⊎◌, ◌↔◌, ℕ, ◌<◌, ◌≤◌, List, [], ◌∷◌, Option, IsSomeAnd, Bool, if◌then◌else◌}
use Rattle.ad_tree.specs.Ad.{Attributes}
use Rattle.claim_id.specs.declared.numbers.JobId.{JobId}
use Rattle.claim_id.specs.declared.numbers.RunNo.{RunNo}
use Rattle.claim_id.specs.declared.numbers.SlotId.{SlotId}
use Rattle.pool_view.specs.declared.job.Entry.{Entry}
use Rattle.pool_view.specs.declared.job.State.{State}
use Rattle.pool_view.specs.declared.mark.HeldClaim.{HeldClaim}
use Rattle.pool_view.specs.declared.mark.SlotMark.{SlotMark}
use Rattle.pool_view.specs.declared.run.EndReport.{EndReport}
use Rattle.pool_view.specs.declared.run.Run.{Run}
use Rattle.pool_view.specs.Ads.{Core}

-- what each slot remembers of its claims
abbrev pub Marks : Type 0
Marks = SlotId → Option SlotMark

-- The sets are lists, of which only the members count.
pub record AbstractPool : Type 0 where
  pub moment : ℕ  -- the greatest reading
  pub next : ℕ  -- the number of the next run
  pub jobs : JobId → Option Entry  -- those of the queue, and those that have left it
  pub acked : List JobId  -- those that were acknowledged
  pub ordered : List JobId  -- those that were ordered to be removed
  pub runs : List Run
  pub marks : Marks
  pub reports : List EndReport  -- of the runs that have ended
  pub slots : SlotId → Option Attributes

abbrev pub IsIn : {A : Type 0} → A → List A → Type 0
IsIn x [] = ⊥
IsIn x (y ∷ ys) = (x ≡ y) ⊎ IsIn x ys

abbrev pub SameMembers : {A : Type 0} → List A → List A → Type 0
SameMembers {A} xs ys = (x : A) → IsIn x xs ↔ IsIn x ys

-- the map with another value at one key
abbrev pub set : {K A : Type 0} → (K → K → Bool) → (K → A) → K → A → K → A
set same map key value k = if same k key then value else map k

-- each part is the same map or set
pub record SameView (v w : AbstractPool) : Type 0 where
  pub moment : w.moment ≡ v.moment
  pub next : w.next ≡ v.next
  pub jobs : (job : JobId) → w.jobs job ≡ v.jobs job
  pub acked : SameMembers v.acked w.acked
  pub ordered : SameMembers v.ordered w.ordered
  pub runs : SameMembers v.runs w.runs
  pub marks : (slot : SlotId) → w.marks slot ≡ v.marks slot
  pub reports : SameMembers v.reports w.reports
  pub slots : (slot : SlotId) → w.slots slot ≡ v.slots slot

abbrev pub IsUsed : Option HeldClaim → RunNo → Type 0
IsUsed held run = IsSomeAnd held (λ h. (h.claim ≡ run.claim) × (run.number ≤ h.last))

-- By a slot's mark a run may start no more: its claim is of an earlier boot, has ended, or has used
-- its number.
abbrev pub IsSpentAt : RunNo → SlotMark → Type 0
IsSpentAt run m = (run.claim.boot < m.boot)
    ⊎ (((run.claim.boot ≡ m.boot) × (run.claim.seq ≤ m.ended)) ⊎ IsUsed m.held run)

-- by its own slot's mark
abbrev pub IsSpentBy : Marks → RunNo → Type 0
IsSpentBy marks run = IsSomeAnd (marks run.claim.slot) (IsSpentAt run)

abbrev pub IsSpent : AbstractPool → RunNo → Type 0
IsSpent v run = IsSpentBy v.marks run

-- it may start no more, and doesn't run
abbrev pub IsDead : AbstractPool → RunNo → Type 0
IsDead v run = IsSpent v run × ((r : Run) → IsIn r v.runs → r.run ≢ run)

-- each run that was spent is
abbrev pub KeepsSpent : Marks → Marks → Type 0
KeepsSpent old new = (run : RunNo) → IsSpentBy old run → IsSpentBy new run

-- the job is there, in that state
abbrev pub Stands : AbstractPool → JobId → State → Type 0
Stands v job state = IsSomeAnd (v.jobs job) (λ e. e.state ≡ state)

-- the job is there, with that core
abbrev pub HasCore : AbstractPool → JobId → Core → Type 0
HasCore v job core = IsSomeAnd (v.jobs job) (λ e. e.core ≡ core)
