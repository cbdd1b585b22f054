-- The next key of a queue, and what it counts.
use Rattle.std.proofs.Common.{◌≡◌, ℕ, ◌+◌, ◌<◌, ◌≤◌, Bool, true, false, cond, [], ◌∷◌, length, min, Option, Some, None, refl, ap, sym, ◌∙◌, arith}
use Rattle.std.specs.Prelude.{find}
use Rattle.std.specs.Cmp.{tied_itself}
use Rattle.std.specs.List.Sorted.{IsStrictlySortedBy}
use Rattle.std.specs.Map.{keys_of}
use Rattle.std.specs.Ordering.{is_eq, ordering_reverse}
use Rattle.std.specs.declared.cmp.Ordering.{Ordering}
use Rattle.ad_tree.specs.Ad.{Attributes}
use Rattle.pool_parts.specs.Sizes.{ad_count, count_under, queue_count}
use Rattle.pool_parts.proofs.Walks.{all_at_first, found_above, fewer_next, found_keys, key_of_entry, next_first, no_key, rest_of}
use Rattle.queue_tx.specs.declared.key.Key.{Key}
use Rattle.queue_tx.specs.Keys.{is_above, key_cmp, key_cmp_total, same_key}
use Rattle.queue_tx.specs.Queues.{KeyedAds, ad_at, key_after}

-- what is found stands under its key
there : (last : Option Key) (q : KeyedAds) (f : Key × Attributes) → IsStrictlySortedBy key_cmp (keys_of q)
    → Some f ≡ find (λ e. is_above last e.0) q → ad_at f.0 q ≡ Some f.1
unfolding IsStrictlySortedBy
there last [] f s h = cc
there last (e ∷ q) f s h = by (is_above last e.0) h (there last q f s.1)
  where
    by : (b : Bool) → Some f ≡ cond b (Some e) (find (λ e. is_above last e.0) q)
        → (Some f ≡ find (λ e. is_above last e.0) q → ad_at f.0 q ≡ Some f.1)
        → cond (same_key f.0 e.0) (Some e.1) (ad_at f.0 q) ≡ Some f.1
    by true h rest =
        let same : f ≡ e = cc in
        ap (λ (x : Key × Attributes). cond (same_key x.0 e.0) (Some e.1) (ad_at x.0 q)) same
        ∙ ap (λ (r : Ordering). cond (is_eq r) (Some e.1) (ad_at e.0 q)) (tied_itself key_cmp_total e.0)
        ∙ ap (λ (x : Key × Attributes). Some x.1) (sym same)
    by false h rest =
        let below = found_above last e.0 q f s.0 h in
        ap (λ (r : Ordering). cond (is_eq r) (Some e.1) (ad_at f.0 q)) (key_cmp_total.antisymm f.0 e.0 ∙ ap ordering_reverse below) ∙ rest h

pub record IsNext (last : Option Key) (q : KeyedAds) (key : Key) : Type 0 where
  pub count : queue_count (rest_of last q) ≡ count_under (ad_at key q) + queue_count (rest_of (Some key) q)
  pub fewer : length (rest_of (Some key) q) < length (rest_of last q)

pub next_key : (last : Option Key) (q : KeyedAds) (key : Key) → IsStrictlySortedBy key_cmp (keys_of q)
    → Some key ≡ key_after last q → IsNext last q key
next_key last q key s h = by (find (λ e. is_above last e.0) q) refl
  where
    by : (found : Option (Key × Attributes)) → find (λ e. is_above last e.0) q ≡ found → IsNext last q key
    by None is = let clash = h ∙ found_keys (is_above last) q ∙ ap key_of_entry is in cc
    by (Some f) is =
        let its : Some key ≡ Some f.0 = h ∙ found_keys (is_above last) q ∙ ap key_of_entry is in
        let same : key ≡ f.0 = cc in
        let here = ap (λ k. ad_at k q) same ∙ there last q f s (sym is) in
        record {
          count =
              ap queue_count (next_first last q f s (sym is))
              ∙ sym (ap (λ a. count_under a + queue_count (rest_of (Some key) q)) here
              ∙ ap (λ k. ad_count f.1 + queue_count (rest_of (Some k) q)) same);
          fewer = let less = fewer_next last q f s (sym is) in let len = ap (λ k. length (rest_of (Some k) q)) same in omega arith;
        }

pub last_key : (last : Option Key) (q : KeyedAds) → None ≡ key_after last q → queue_count (rest_of last q) ≡ 0
last_key last q h = ap queue_count (no_key last q h)

-- ---- the walk, by sizes that stop at the greatest number of 64 bits
pub count_on : (last : Option Key) (q : KeyedAds) (key : Key) (size next whole : ℕ) → IsStrictlySortedBy key_cmp (keys_of q) → Some key ≡ key_after last q
    → next ≡ min (size + count_under (ad_at key q)) 18446744073709551615
    → (min (size + queue_count (rest_of last q)) 18446744073709551615 ≡ min whole 18446744073709551615) × (size ≤ 18446744073709551615)
    → (min (next + queue_count (rest_of (Some key) q)) 18446744073709551615 ≡ min whole 18446744073709551615) × (next ≤ 18446744073709551615)
count_on last q key size next whole s h is so_far =
    let count = (next_key last q key s h).count in
    let all = so_far.0 in
    (omega (arith, count, is, all), omega (arith, is))

pub fewer_on : (last : Option Key) (q : KeyedAds) (key : Key) → IsStrictlySortedBy key_cmp (keys_of q) → Some key ≡ key_after last q
    → length (rest_of (Some key) q) < length (rest_of last q)
fewer_on last q key s h = (next_key last q key s h).fewer

pub count_begin : (q : KeyedAds) → (min (0 + queue_count (rest_of None q)) 18446744073709551615 ≡ min (queue_count q) 18446744073709551615) × (0 ≤ 18446744073709551615)
count_begin q = let all = ap queue_count (all_at_first q) in (omega (arith, all), omega arith)
