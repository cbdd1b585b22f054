-- The job at a place with the first slot that it matches.
use Rattle.std.specs.Prelude.{◌≡◌, ℕ, Bool, false, List, take, slice_get, Some, IfSome}
use Rattle.std.specs.List.{list_any}
use Rattle.ad_tree.specs.Ad.{Attributes}
use Rattle.ad_eval.specs.Judgement.{Judgement}
use Rattle.ad_eval.specs.Match.{matches}
use Rattle.claim_id.specs.declared.numbers.SlotId.{SlotId}
use Rattle.thin_pool.specs.declared.next.Pair.{Pair}
use Rattle.thin_pool.specs.declared.slot.PoolSlot.{PoolSlot}
use Rattle.thin_pool.specs.Jobs.{idle_at}
use Rattle.thin_pool.specs.PoolValue.{PoolValue}

-- a job of that ad matches one of the slots
abbrev pub fits_any : List PoolSlot → Attributes → ℕ → Bool
fits_any slots ad now = list_any (λ s. matches ad s.ad now) slots

-- the number of the first slot that a job of that ad matches, and the match
pub record IsFirstFit
    (slots : List PoolSlot) (ad : Attributes) (now : ℕ) (id : SlotId) (judged : Judgement)
    : Type 0 where
  pub place : ℕ
  pub slot : PoolSlot
  pub there : slice_get slots place ≡ Some slot
  pub its_number : id ≡ slot.slot
  pub of_job : judged.job ≡ ad
  pub of_slot : judged.slot ≡ slot.ad
  pub at_now : judged.at ≡ now
  pub none_before : fits_any (take place slots) ad now ≡ false

-- the job at that place is idle, and that is the first slot that it matches
pub record IsPairAt (p : PoolValue) (place now : ℕ) (pair : Pair) : Type 0 where
  pub ad : Attributes
  pub its_job : idle_at place p.jobs ≡ Some (pair.job, ad)
  pub fit : IsFirstFit p.slots ad now pair.slot pair.judged

-- no job is idle at that place, or it matches no slot
abbrev pub HasNoPairAt : PoolValue → ℕ → ℕ → Type 0
HasNoPairAt p place now =
    IfSome (idle_at place p.jobs) (λ e. fits_any p.slots e.1 now ≡ false)
