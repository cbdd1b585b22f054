-- How far all jobs with a periodic expression were looked at.
use Rattle.std.proofs.Common.{◌≡◌, ℕ, suc, ◌+◌, ◌<◌, ◌≤◌, Bool, true, false, cond, List, [], ◌∷◌, length, Option, Some, None, is_some, refl, ap, sym, ◌∙◌, arith}
use Rattle.std.specs.declared.cmp.Ordering.{Ordering}
use Rattle.std.specs.declared.cmp.Ordering.TheVariants.{Less, Equal, Greater}
use Rattle.std.specs.declared.ops.Bound.{Bound}
use denote.Ref.{Bor}
use Rattle.std.specs.Ordering.{is_lt, is_gt}
use Rattle.ordered_map.specs.Trees.{is_past}
use Rattle.ordered_map.proofs.Splits.{greater_from_less}
use Rattle.queue_tx.specs.declared.key.Key.{Key}
use Rattle.queue_tx.specs.Keys.{key_cmp, key_cmp_total, is_above}
use Rattle.queue_tx.specs.Jobs.{IsFirstKey}
use Rattle.queue_tx.specs.Periodic.{IsPeriodic}
use Rattle.queue_tx.specs.Queues.{KeyedAds}
use Rattle.queue_tx.proofs.Asking.{above_count, fewer}
use Rattle.queue_tx.proofs.PeriodicJobs.{periodic_is_there}
use Rattle.queue_tx.proofs.Queues.{exact_keys}
use Rattle.schedd_state.specs.DueChecks.{was_checked, IsPassedTo, IsNextPeriodic, IsFar, NextChecked}

-- ---- the first that is above a key
module _ (q : KeyedAds) (looks : List (Key × ℕ)) (passed : Option Key) (start : Bound (Bor Key)) (same : (k : Key) → is_past key_cmp start k ≡ is_above passed k) where
  pub next_of : (key : Key) → IsFirstKey (IsPeriodic q) start key → IsNextPeriodic q passed key
  next_of key f = record {
    periodic = f.meant;
    above = sym (same key) ∙ f.past;
    first = λ other periodic above. f.first other periodic (same other ∙ above);
  }

  pub far_without : ((key : Key) → IsPeriodic q key → is_past key_cmp start key ≡ false) → IsFar q looks passed
  far_without none key next = let clash : true ≡ false = sym next.above ∙ (sym (same key) ∙ none key next.periodic) in cc

  pub far_at : (key : Key) → IsFirstKey (IsPeriodic q) start key → was_checked looks key ≡ false → IsFar q looks passed
  far_at key f fresh other next =
      ap (was_checked looks) (sym (exact_keys key other (by (key_cmp key other) refl (f.first other next.periodic (same other ∙ next.above)) (next.first key f.meant (sym (same key) ∙ f.past))))) ∙ fresh
    where
      by : (r : Ordering) → key_cmp key other ≡ r → is_gt r ≡ false → is_gt (key_cmp other key) ≡ false → key_cmp key other ≡ Equal
      by Less is h g = let clash : true ≡ false = ap is_gt (sym (greater_from_less key_cmp_total key other is)) ∙ g in cc
      by Equal is h g = is
      by Greater is h g = cc

-- ---- from one to the next
pub passed_to : (q : KeyedAds) (looks : List (Key × ℕ)) (passed : Option Key) (k : Key) → IsPassedTo q looks passed → IsNextPeriodic q passed k → was_checked looks k ≡ true → IsPassedTo q looks (Some k)
passed_to q looks passed k to next checked key periodic below = by (is_above passed key) refl
  where
    at_it : (r : Ordering) → key_cmp k key ≡ r → is_lt r ≡ false → is_gt r ≡ false → was_checked looks key ≡ true
    at_it Less is h g = cc
    at_it Equal is h g = ap (was_checked looks) (sym (exact_keys k key is)) ∙ checked
    at_it Greater is h g = cc

    by : (b : Bool) → is_above passed key ≡ b → was_checked looks key ≡ true
    by false is = to key periodic is
    by true is = at_it (key_cmp k key) refl below (next.first key periodic is)

abbrev pub IsStillPassed : KeyedAds → List (Key × ℕ) → Option Key → Option Key → Type 0
IsStillPassed q looks passed far = IsPassedTo q looks passed → IsPassedTo q looks far

pub still_passed : (q : KeyedAds) (looks : List (Key × ℕ)) (passed far : Option Key) (k : Key) → IsStillPassed q looks passed far → IsNextPeriodic q far k × (was_checked looks k ≡ true) → IsStillPassed q looks passed (Some k)
still_passed q looks passed far k still next to = passed_to q looks far k (still to) next.0 next.1

-- how many keys are left
abbrev pub left_above : Option Key → KeyedAds → ℕ
left_above None q = suc (length q)
left_above (Some key) q = above_count key q

above_few : (k : Key) (q : KeyedAds) → above_count k q ≤ length q
above_few k [] = omega arith
above_few k (e ∷ q) = by (is_lt (key_cmp k e.0)) (above_few k q)
  where
    by : (b : Bool) → above_count k q ≤ length q → cond b (1 + above_count k q) (above_count k q) ≤ suc (length q)
    by true h = omega arith
    by false h = omega arith

pub fewer_left : (q : KeyedAds) (looks : List (Key × ℕ)) (passed : Option Key) (k : Key) → IsNextPeriodic q passed k × (was_checked looks k ≡ true) → left_above (Some k) q < left_above passed q
fewer_left q looks None k next = let few = above_few k q in omega arith
fewer_left q looks (Some key) k next = fewer key k q next.0.above (periodic_is_there q k next.0.periodic)

pub is_far : (q : KeyedAds) (looks : List (Key × ℕ)) (passed found : Option Key) → NextChecked q looks passed found → is_some found ≡ false → IsFar q looks passed
is_far q looks passed None far end = far
is_far q looks passed (Some key) next end = cc
