-- The jobs under a claim, one after the other.
use Rattle.std.proofs.Common.{◌≡◌, ℕ, ◌+◌, ◌<◌, ◌≤◌, suc, true, false, Bool, cond, List, [], ◌∷◌, ◌++◌, length, append_assoc, Option, Some, None, is_some, option_map, refl, ap, sym, ◌∙◌, subst, arith}
use Rattle.std.specs.declared.ops.Bound.{Bound}
use denote.Ref.{Bor}
use Rattle.std.specs.declared.cmp.Ordering.TheVariants.{Less}
use Rattle.std.specs.List.{AllByRecursion}
use Rattle.std.specs.List.Sorted.{IsStrictlySortedBy}
use Rattle.std.specs.Ordering.{is_lt}
use Rattle.claim_id.specs.declared.numbers.JobId.{JobId}
use Rattle.ordered_map.specs.Trees.{is_past}
use Rattle.queue_tx.specs.declared.key.Key.{Key}
use Rattle.queue_tx.specs.declared.key.Key.TheVariants.{Proc}
use Rattle.queue_tx.specs.declared.kind.JobKind.TheVariants.{Under}
use Rattle.queue_tx.specs.Keys.{key_cmp}
use Rattle.queue_tx.specs.Jobs.{FirstKey, IsJobOf}
use Rattle.queue_tx.specs.Queues.{KeyedAds}
use Rattle.queue_tx.proofs.Asking.{above_count, fewer, job_is_there}
use Rattle.schedd_plan.specs.LeftOrder.{AreInOrder, job_cmp}
use Rattle.schedd_plan.proofs.LeftLists.{above_less, is_less}
use Rattle.schedd_state.specs.Searches.{is_later, IsNextUnder, NoneUnder, NextUnder, AreUnder}

pub next_from : (q : KeyedAds) (last : Option JobId) (start : Bound (Bor Key)) (found : Option JobId)
    → ((key : Key) → is_past key_cmp start key ≡ is_later last key)
    → FirstKey (IsJobOf Under q) start (option_map Proc found) → NextUnder q last found
next_from q last start None same none = λ key under. sym (same key) ∙ none key under
next_from q last start (Some job) same first = record {
  under = first.meant;
  later = sym (same (Proc job)) ∙ first.past;
  first = λ other under later. first.first other under (same other ∙ later);
}

-- ---- the list so far, and what is yet to come

abbrev pub IsListed : KeyedAds → Option JobId → List JobId → Type 0
IsListed q last jobs = (rest : List JobId) → AreUnder q last rest → AreUnder q None (jobs ++ rest)

pub listed_more : (q : KeyedAds) (last : Option JobId) (job : JobId) (jobs : List JobId)
    → IsListed q last jobs → IsNextUnder q last job → IsListed q (Some job) (jobs ++ job ∷ [])
listed_more q last job jobs listed next rest under =
    subst (λ xs. AreUnder q None xs) (sym (append_assoc jobs (job ∷ []) rest)) (listed (job ∷ rest) (next, under))

append_none : (jobs : List JobId) → jobs ++ [] ≡ jobs
append_none [] = refl
append_none (job ∷ jobs) = ap (λ xs. job ∷ xs) (append_none jobs)

pub listed_all : (q : KeyedAds) (last : Option JobId) (jobs : List JobId)
    → IsListed q last jobs → NoneUnder q last → AreUnder q None jobs
listed_all q last jobs listed none =
    subst (λ xs. AreUnder q None xs) (append_none jobs) (listed [] none)

-- ---- how many keys are left

abbrev pub later_count : Option JobId → KeyedAds → ℕ
later_count None q = suc (length q)
later_count (Some job) q = above_count (Proc job) q

above_few : (k : Key) (q : KeyedAds) → above_count k q ≤ length q
above_few k [] = omega arith
above_few k (e ∷ q) = by (is_lt (key_cmp k e.0)) (above_few k q)
  where
    by : (b : Bool) → above_count k q ≤ length q → cond b (1 + above_count k q) (above_count k q) ≤ suc (length q)
    by true h = omega arith
    by false h = omega arith

pub fewer_later : (q : KeyedAds) (last : Option JobId) (job : JobId) → IsNextUnder q last job
    → later_count (Some job) q < later_count last q
fewer_later q None job next = let few = above_few (Proc job) q in omega arith
fewer_later q (Some last) job next =
    fewer (Proc last) (Proc job) q next.later (job_is_there Under q (Proc job) next.under)

pub listed_end : (q : KeyedAds) (last : Option JobId) (jobs : List JobId) (found : Option JobId)
    → IsListed q last jobs → NextUnder q last found → is_some found ≡ false → AreUnder q None jobs
listed_end q last jobs None listed none end = listed_all q last jobs listed none
listed_end q last jobs (Some job) listed next end = cc

-- ---- each comes before those after it

all_after : (q : KeyedAds) (job : JobId) (jobs : List JobId) → AreUnder q (Some job) jobs
    → AllByRecursion (λ other. job_cmp job other ≡ Less) jobs
all_after q job [] under = tt
all_after q job (next ∷ jobs) under =
    let less = is_less (job_cmp job next) under.0.later in
    (less, above_less job next jobs less (all_after q next jobs under.1))

under_behind : (q : KeyedAds) (last : Option JobId) (jobs : List JobId) → AreUnder q last jobs → AreInOrder jobs
unfolding IsStrictlySortedBy
under_behind q last [] under = tt
under_behind q last (job ∷ jobs) under = (all_after q job jobs under.1, under_behind q (Some job) jobs under.1)

pub under_in_order : (q : KeyedAds) (jobs : List JobId) → AreUnder q None jobs → AreInOrder jobs
under_in_order q jobs under = under_behind q None jobs under
