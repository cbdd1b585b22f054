-- The jobs of a kind, one after the other.
use Rattle.std.proofs.Common.{◌≡◌, ℕ, ◌+◌, ◌<◌, ◌≤◌, suc, true, false, Bool, cond, List, [], ◌∷◌, ◌++◌, length, append_assoc, Option, Some, None, is_some, refl, ap, sym, subst, arith}
use Rattle.std.specs.Ordering.{is_lt}
use Rattle.claim_id.specs.declared.numbers.JobId.{JobId}
use Rattle.queue_tx.specs.declared.key.Key.{Key}
use Rattle.queue_tx.specs.declared.key.Key.TheVariants.{Proc}
use Rattle.queue_tx.specs.declared.kind.JobKind.{JobKind}
use Rattle.queue_tx.specs.Keys.{key_cmp}
use Rattle.queue_tx.specs.Queues.{KeyedAds}
use Rattle.queue_tx.proofs.Asking.{above_count, fewer, job_is_there}
use Rattle.pool_parts.specs.Listings.{IsNextJob, NoneLater, NextJob, AreJobs}

-- ---- the list so far, and what is yet to come

abbrev pub IsListed : JobKind → KeyedAds → Option JobId → List JobId → Type 0
IsListed kind q last jobs = (rest : List JobId) → AreJobs kind q last rest → AreJobs kind q None (jobs ++ rest)

pub listed_more : (kind : JobKind) (q : KeyedAds) (last : Option JobId) (job : JobId) (jobs : List JobId)
    → IsListed kind q last jobs → IsNextJob kind q last job → IsListed kind q (Some job) (jobs ++ job ∷ [])
listed_more kind q last job jobs listed next rest under =
    subst (λ xs. AreJobs kind q None xs) (sym (append_assoc jobs (job ∷ []) rest)) (listed (job ∷ rest) (next, under))

append_none : (jobs : List JobId) → jobs ++ [] ≡ jobs
append_none [] = refl
append_none (job ∷ jobs) = ap (λ xs. job ∷ xs) (append_none jobs)

pub listed_all : (kind : JobKind) (q : KeyedAds) (last : Option JobId) (jobs : List JobId)
    → IsListed kind q last jobs → NoneLater kind q last → AreJobs kind q None jobs
listed_all kind q last jobs listed none =
    subst (λ xs. AreJobs kind q None xs) (append_none jobs) (listed [] none)

-- ---- how many keys are left

abbrev pub later_count : Option JobId → KeyedAds → ℕ
later_count None q = suc (length q)
later_count (Some job) q = above_count (Proc job) q

above_few : (k : Key) (q : KeyedAds) → above_count k q ≤ length q
above_few k [] = omega arith
above_few k (e ∷ q) = by (is_lt (key_cmp k e.0)) (above_few k q)
  where
    by : (b : Bool) → above_count k q ≤ length q → cond b (1 + above_count k q) (above_count k q) ≤ suc (length q)
    by true h = omega arith
    by false h = omega arith

pub fewer_later : (kind : JobKind) (q : KeyedAds) (last : Option JobId) (job : JobId) → IsNextJob kind q last job
    → later_count (Some job) q < later_count last q
fewer_later kind q None job next = let few = above_few (Proc job) q in omega arith
fewer_later kind q (Some last) job next =
    fewer (Proc last) (Proc job) q next.later (job_is_there kind q (Proc job) next.meant)

pub listed_end : (kind : JobKind) (q : KeyedAds) (last : Option JobId) (jobs : List JobId) (found : Option JobId)
    → IsListed kind q last jobs → NextJob kind q last found → is_some found ≡ false → AreJobs kind q None jobs
listed_end kind q last jobs None listed none end = listed_all kind q last jobs listed none
listed_end kind q last jobs (Some job) listed next end = cc
