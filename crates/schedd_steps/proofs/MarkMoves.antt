-- A mark up to which all jobs were looked at can move on.
use Rattle.std.proofs.Common.{◌≡◌, ◌⊎◌, inl, inr, ℕ, zero, suc, ◌<◌, Bool, true, false, cond, ◌&&◌, List, [], ◌∷◌, Option, Some, is_some, refl, ap, sym, ◌∙◌, subst, arith}
use Rattle.std.specs.Cmp.{tied_itself}
use Rattle.std.specs.List.{AllByRecursion}
use Rattle.std.specs.List.Sorted.{IsStrictlySortedBy}
use Rattle.std.specs.Map.{keys_of}
use Rattle.std.specs.Ordering.{is_eq, is_gt, ordering_reverse}
use Rattle.std.specs.declared.cmp.Ordering.{Ordering}
use Rattle.std.specs.declared.cmp.Ordering.TheVariants.{Less, Equal, Greater}
use Rattle.ad_tree.specs.Ad.{Attributes}
use Rattle.queue_tx.specs.declared.key.Key.{Key}
use Rattle.queue_tx.specs.declared.key.Key.TheVariants.{Header, Proc}
use Rattle.queue_tx.specs.Keys.{is_above, key_cmp, key_cmp_total, same_key, same_key_laws}
use Rattle.queue_tx.specs.Periodic.{is_periodic, IsPeriodic}
use Rattle.queue_tx.specs.Queues.{IsQueue, KeyedAds, ad_at}
use Rattle.queue_tx.proofs.PeriodicJobs.{periodic_is_there}
use Rattle.queue_tx.proofs.Queues.{exact_keys}
use Rattle.queue_tx.proofs.Transactions.{same_keys}
use Rattle.schedd_state.specs.DueChecks.{IsFar, IsNextPeriodic, Passes, was_checked}
use Rattle.schedd_state.proofs.Passing.{fewer_left, left_above, passed_to}

-- ---- keys of a queue
-- a key is before all that stand after it
in_rest : (x : Key) (q : KeyedAds) (k : Key) → AllByRecursion (λ n. key_cmp x n ≡ Less) (keys_of q) → is_some (ad_at k q) ≡ true → key_cmp x k ≡ Less
in_rest x [] k all there = cc
in_rest x (e ∷ q) k all there = by (same_key k e.0) refl there (in_rest x q k all.1)
  where
    by : (b : Bool) → same_key k e.0 ≡ b → is_some (cond b (Some e.1) (ad_at k q)) ≡ true → (is_some (ad_at k q) ≡ true → key_cmp x k ≡ Less) → key_cmp x k ≡ Less
    by true h there rest = subst (λ y. key_cmp x y ≡ Less) (sym (same_keys k e.0 h)) all.0
    by false h there rest = rest there

before_rest : (e : Key × Attributes) (q : KeyedAds) (k : Key) → IsQueue (e ∷ q) → is_some (ad_at k q) ≡ true → key_cmp e.0 k ≡ Less
unfolding IsStrictlySortedBy
before_rest e q k s there = in_rest e.0 q k s.0 there

rest_queue : (e : Key × Attributes) (q : KeyedAds) → IsQueue (e ∷ q) → IsQueue q
unfolding IsStrictlySortedBy
rest_queue e q s = s.1

-- another key than the first is one of the rest
periodic_in_rest : (e : Key × Attributes) (q : KeyedAds) (k : Key) → same_key k e.0 ≡ false → IsPeriodic (e ∷ q) k → IsPeriodic q k
periodic_in_rest e q k h p = ap (λ b. is_periodic k (cond b (Some e.1) (ad_at k q))) (sym h) ∙ p

periodic_of_rest : (e : Key × Attributes) (q : KeyedAds) (k : Key) → IsQueue (e ∷ q) → IsPeriodic q k → IsPeriodic (e ∷ q) k
periodic_of_rest e q k s p = ap (λ b. is_periodic k (cond b (Some e.1) (ad_at k q))) other ∙ p
  where
    other : same_key k e.0 ≡ false
    other = ap is_eq (key_cmp_total.antisymm k e.0 ∙ ap ordering_reverse (before_rest e q k s (periodic_is_there q k p)))

periodic_first : (e : Key × Attributes) (q : KeyedAds) (k : Key) → same_key k e.0 ≡ true → IsPeriodic (e ∷ q) k → is_periodic e.0 (Some e.1) ≡ true
periodic_first e q k h p = subst (λ x. is_periodic x (Some e.1) ≡ true) (same_keys k e.0 h) (ap (λ b. is_periodic k (cond b (Some e.1) (ad_at k q))) (sym h) ∙ p)

-- ---- the first job with a periodic expression above a mark, if there is one
abbrev NoneAbove : KeyedAds → Option Key → Type 0
NoneAbove q mark = (k : Key) → IsPeriodic q k → is_above mark k ≡ false

and_both : (a b : Bool) → (a && b) ≡ true → (a ≡ true) × (b ≡ true)
and_both true true h = (refl, refl)
and_both true false h = cc
and_both false b h = cc

first_above : (mark : Option Key) (q : KeyedAds) → IsQueue q → ((k : Key) × IsNextPeriodic q mark k) ⊎ NoneAbove q mark
first_above mark [] s = inr none
  where
    none : (k : Key) → IsPeriodic [] k → is_above mark k ≡ false
    none Header p = cc
    none (Proc job) p = cc
first_above mark (e ∷ q) s = by (is_above mark e.0 && is_periodic e.0 (Some e.1)) refl (first_above mark q (rest_queue e q s))
  where
    here : (is_above mark e.0 ≡ true) × (is_periodic e.0 (Some e.1) ≡ true) → IsNextPeriodic (e ∷ q) mark e.0
    here h = record {
      periodic = ap (λ b. is_periodic e.0 (cond b (Some e.1) (ad_at e.0 q))) (same_key_laws.refl e.0) ∙ h.1;
      above = h.0;
      first = λ other p above. first other (same_key other e.0) refl p;
    }
      where
        first : (other : Key) (b : Bool) → same_key other e.0 ≡ b → IsPeriodic (e ∷ q) other → is_gt (key_cmp e.0 other) ≡ false
        first other true is p = ap is_gt (ap (λ x. key_cmp e.0 x) (same_keys other e.0 is) ∙ tied_itself key_cmp_total e.0)
        first other false is p = ap is_gt (before_rest e q other s (periodic_is_there q other (periodic_in_rest e q other is p)))

    not_here : (is_above mark e.0 && is_periodic e.0 (Some e.1)) ≡ false → (k : Key) → same_key k e.0 ≡ true → IsPeriodic (e ∷ q) k → is_above mark k ≡ true → ⊥
    not_here miss k is p above =
        let a : is_above mark e.0 ≡ true = subst (λ x. is_above mark x ≡ true) (same_keys k e.0 is) above in
        let b = periodic_first e q k is p in
        let clash : true ≡ false = sym (ap (λ x. x && is_periodic e.0 (Some e.1)) a ∙ b) ∙ miss in
        cc

    later : (is_above mark e.0 && is_periodic e.0 (Some e.1)) ≡ false → (k : Key) → IsNextPeriodic q mark k → IsNextPeriodic (e ∷ q) mark k
    later miss k n = record {
      periodic = periodic_of_rest e q k s n.periodic;
      above = n.above;
      first = λ other p above. first other (same_key other e.0) refl p above;
    }
      where
        first : (other : Key) (b : Bool) → same_key other e.0 ≡ b → IsPeriodic (e ∷ q) other → is_above mark other ≡ true → is_gt (key_cmp k other) ≡ false
        first other true is p above = absurd (not_here miss other is p above)
        first other false is p above = n.first other (periodic_in_rest e q other is p) above

    none : (is_above mark e.0 && is_periodic e.0 (Some e.1)) ≡ false → NoneAbove q mark → NoneAbove (e ∷ q) mark
    none miss below k p = by_key (same_key k e.0) refl (is_above mark k) refl
      where
        by_key : (b : Bool) → same_key k e.0 ≡ b → (c : Bool) → is_above mark k ≡ c → is_above mark k ≡ false
        by_key true is true above = absurd (not_here miss k is p above)
        by_key true is false above = above
        by_key false is c above = below k (periodic_in_rest e q k is p)

    by : (b : Bool) → (is_above mark e.0 && is_periodic e.0 (Some e.1)) ≡ b → ((k : Key) × IsNextPeriodic q mark k) ⊎ NoneAbove q mark
        → ((k : Key) × IsNextPeriodic (e ∷ q) mark k) ⊎ NoneAbove (e ∷ q) mark
    by true h rest = inl (e.0, here (and_both (is_above mark e.0) (is_periodic e.0 (Some e.1)) h))
    by false h (inl n) = inl (n.0, later h n.0 n.1)
    by false h (inr below) = inr (none h below)

-- ---- on, over those that were looked at
far_there : (q : KeyedAds) (looks : List (Key × ℕ)) (mark : Option Key) (k : Key) → IsNextPeriodic q mark k → was_checked looks k ≡ false → IsFar q looks mark
far_there q looks mark k n fresh other next =
    ap (was_checked looks) (sym (exact_keys k other (by (key_cmp k other) refl (n.first other next.periodic next.above) (next.first k n.periodic n.above)))) ∙ fresh
  where
    by : (r : Ordering) → key_cmp k other ≡ r → is_gt r ≡ false → is_gt (key_cmp other k) ≡ false → key_cmp k other ≡ Equal
    by Less is h g = let clash : true ≡ false = sym (ap is_gt (key_cmp_total.antisymm other k ∙ ap ordering_reverse is)) ∙ g in cc
    by Equal is h g = is
    by Greater is h g = cc

moves_within : (room : ℕ) (q : KeyedAds) (looks : List (Key × ℕ)) (mark : Option Key) → IsQueue q → left_above mark q < room → (new : Option Key) × Passes q looks mark new
moves_within zero q looks mark s less = absurd (omega arith)
moves_within (suc room) q looks mark s less = by (first_above mark q s) (λ k n checked. moves_within room q looks (Some k) s (let few = fewer_left q looks mark k (n, checked) in omega arith))
  where
    stay : IsFar q looks mark → (new : Option Key) × Passes q looks mark new
    stay far = (mark, record { passed = λ to. to; far = far })

    on : (k : Key) → IsNextPeriodic q mark k → (b : Bool) → was_checked looks k ≡ b → (was_checked looks k ≡ true → (new : Option Key) × Passes q looks (Some k) new) → (new : Option Key) × Passes q looks mark new
    on k n true checked rest = let r = rest checked in (r.0, record { passed = λ to. r.1.passed (passed_to q looks mark k to n checked); far = r.1.far })
    on k n false fresh rest = stay (far_there q looks mark k n fresh)

    by : ((k : Key) × IsNextPeriodic q mark k) ⊎ NoneAbove q mark → ((k : Key) → IsNextPeriodic q mark k → was_checked looks k ≡ true → (new : Option Key) × Passes q looks (Some k) new)
        → (new : Option Key) × Passes q looks mark new
    by (inl n) rest = on n.0 n.1 (was_checked looks n.0) refl (rest n.0 n.1)
    by (inr none) rest = stay (λ key next. let clash : true ≡ false = sym next.above ∙ none key next.periodic in cc)

pub mark_moves : (q : KeyedAds) (looks : List (Key × ℕ)) (mark : Option Key) → IsQueue q → (new : Option Key) × Passes q looks mark new
mark_moves q looks mark s = moves_within (suc (left_above mark q)) q looks mark s (omega arith)
