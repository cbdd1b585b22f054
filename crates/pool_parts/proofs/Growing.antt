-- What a queue counts more, by the keys under which it changes.
use Rattle.std.proofs.Common.{◌≡◌, ℕ, ◌+◌, ◌-◌, Bool, true, false, cond, List, [], ◌∷◌, Option, Some, None, Result, Ok, Err, refl, ap, sym, ◌∙◌, subst, arith}
use Rattle.std.specs.Map.{remove_entry}
use Rattle.ad_tree.specs.Ad.{Attributes}
use Rattle.pool_parts.specs.Sizes.{ad_count, count_under, queue_count}
use Rattle.pool_parts.specs.declared.growth.Growth.{Growth}
use Rattle.pool_parts.specs.Growth.{AreDistinct, Grows, is_among, is_touched, keys_count}
use Rattle.queue_tx.specs.declared.error.ApplyError.{ApplyError}
use Rattle.queue_tx.specs.declared.key.Key.{Key}
use Rattle.queue_tx.specs.Keys.{same_key, same_key_laws}
use Rattle.queue_tx.specs.Operations.{Operation, key_of}
use Rattle.queue_tx.specs.Queues.{IsQueue, KeyedAds, ad_at, ad_after, after_op, after_ops, after_rest, put_back, queue_after, with_ad}
use Rattle.queue_tx.proofs.Queues.{found_with, ordered_with, queues_from_lookups}
use Rattle.queue_tx.proofs.Transactions.{leaves_other_keys}

-- ---- without what stands under keys
taken_out : (k : Key) (q : KeyedAds) → queue_count q ≡ count_under (ad_at k q) + queue_count (remove_entry (same_key k) q)
taken_out k [] = refl
taken_out k (e ∷ q) = by (same_key k e.0) (taken_out k q)
  where
    by : (b : Bool) → queue_count q ≡ count_under (ad_at k q) + queue_count (remove_entry (same_key k) q)
        → ad_count e.1 + queue_count q ≡ count_under (cond b (Some e.1) (ad_at k q)) + queue_count (cond b q (e ∷ remove_entry (same_key k) q))
    by true rest = refl
    by false rest = omega (arith, rest)

abbrev without_keys : List Key → KeyedAds → KeyedAds
without_keys [] q = q
without_keys (k ∷ ks) q = without_keys ks (with_ad k None q)

ordered_without : (ks : List Key) (q : KeyedAds) → IsQueue q → IsQueue (without_keys ks q)
ordered_without [] q s = s
ordered_without (k ∷ ks) q s = ordered_without ks (with_ad k None q) (ordered_with k None q s)

found_without : (p : Key) (ks : List Key) (q : KeyedAds) → IsQueue q → ad_at p (without_keys ks q) ≡ cond (is_among p ks) None (ad_at p q)
found_without p [] q s = refl
found_without p (k ∷ ks) q s =
    found_without p ks (with_ad k None q) (ordered_with k None q s)
    ∙ ap (cond (is_among p ks) None) (found_with p k None q s ∙ ap (λ b. cond b None (ad_at p q)) (same_key_laws.symm k p))
    ∙ by (is_among p ks) (same_key p k)
  where
    by : (b d : Bool) → cond b None (cond d None (ad_at p q)) ≡ cond (cond d true b) None (ad_at p q)
    by true true = refl
    by true false = refl
    by false true = refl
    by false false = refl

-- a key that is not among others has nothing to do with what these count
apart : (k : Key) (ks : List Key) (q : KeyedAds) → IsQueue q → is_among k ks ≡ false → keys_count ks (with_ad k None q) ≡ keys_count ks q
apart k [] q s h = refl
apart k (x ∷ ks) q s h = by (same_key k x) refl h (apart k ks q s)
  where
    by : (b : Bool) → same_key k x ≡ b → cond b true (is_among k ks) ≡ false → (is_among k ks ≡ false → keys_count ks (with_ad k None q) ≡ keys_count ks q)
        → count_under (ad_at x (with_ad k None q)) + keys_count ks (with_ad k None q) ≡ count_under (ad_at x q) + keys_count ks q
    by true e h rest = cc
    by false e h rest =
        ap (λ a. count_under a + keys_count ks (with_ad k None q)) (found_with x k None q s ∙ ap (λ b. cond b None (ad_at x q)) e)
        ∙ ap (λ n. count_under (ad_at x q) + n) (rest h)

in_two_parts : (ks : List Key) (q : KeyedAds) → IsQueue q → AreDistinct ks → queue_count q ≡ keys_count ks q + queue_count (without_keys ks q)
in_two_parts [] q s d = omega arith
in_two_parts (k ∷ ks) q s d =
    let here = taken_out k q in
    let rest = in_two_parts ks (with_ad k None q) (ordered_with k None q s) d.1 in
    let same = apart k ks q s d.0 in
    omega (arith, here, rest, same)

alike_without : (ks : List Key) (old new : KeyedAds) → IsQueue old → IsQueue new → ((p : Key) → is_among p ks ≡ false → ad_at p new ≡ ad_at p old)
    → without_keys ks new ≡ without_keys ks old
alike_without ks old new s t others =
    queues_from_lookups (without_keys ks new) (without_keys ks old) (ordered_without ks new t) (ordered_without ks old s) (λ p.
    found_without p ks new t ∙ by p (is_among p ks) refl ∙ sym (found_without p ks old s))
  where
    by : (p : Key) (b : Bool) → is_among p ks ≡ b → cond b None (ad_at p new) ≡ cond b None (ad_at p old)
    by p true e = refl
    by p false e = others p e

-- ---- what a transaction leaves alone
ordered_op : (n : ℕ) (q m : KeyedAds) (o : Operation) → IsQueue q → after_op n q o ≡ Ok m → IsQueue m
ordered_op n q m o s h = by (ad_after n (ad_at (key_of o) q) o) h
  where
    by : (r : Result (Option Attributes) ApplyError) → put_back (key_of o) q r ≡ Ok m → IsQueue m
    by (Ok a) h = let same : with_ad (key_of o) a q ≡ m = cc in subst IsQueue same (ordered_with (key_of o) a q s)
    by (Err f) h = cc

untouched_from : (n : ℕ) (q new : KeyedAds) (os : List Operation) (p : Key) → IsQueue q → after_ops n q os ≡ Ok new → is_touched p os ≡ false → ad_at p new ≡ ad_at p q
untouched_from n q new [] p s h t = let same : q ≡ new = cc in ap (ad_at p) (sym same)
untouched_from n q new (o ∷ os) p s h t =
    by (after_op n q o) refl h (same_key p (key_of o)) refl t (λ m u g k. untouched_from (n + 1) m new os p u g k)
  where
    by : (r : Result KeyedAds ApplyError) → after_op n q o ≡ r → after_rest (λ m. after_ops (n + 1) m os) r ≡ Ok new
        → (b : Bool) → same_key p (key_of o) ≡ b → cond b true (is_touched p os) ≡ false
        → ((m : KeyedAds) → IsQueue m → after_ops (n + 1) m os ≡ Ok new → is_touched p os ≡ false → ad_at p new ≡ ad_at p m) → ad_at p new ≡ ad_at p q
    by (Err f) e h b same t rest = cc
    by (Ok m) e h true same t rest = cc
    by (Ok m) e h false same t rest = rest m (ordered_op n q m o s e) h t ∙ leaves_other_keys n q m o p s e (same_key_laws.symm (key_of o) p ∙ same)

-- ---- how it grows
pub grows : (g : Growth) (q new : KeyedAds) (tx : List Operation) → IsQueue q → queue_after q tx ≡ Ok new → AreDistinct g.keys.items
    → ((p : Key) → is_among p g.keys.items ≡ is_touched p tx) → g.less ≡ keys_count g.keys.items q → Grows g q new
grows g q new tx s done distinct touched less = record {
  distinct = distinct;
  others = λ p out. untouched_from 0 q new tx p s done (sym (touched p) ∙ out);
  less = less;
  is_queue = s;
}

pub grown : (g : Growth) (bytes more sum all : ℕ) (old new : KeyedAds) → IsQueue new → Grows g old new
    → more ≡ keys_count g.keys.items new → sum ≡ bytes + more → all ≡ sum - g.less → all ≡ bytes + queue_count new - queue_count old
grown g bytes more sum all old new t h m a e =
    let before = in_two_parts g.keys.items old h.is_queue h.distinct in
    let after = in_two_parts g.keys.items new t h.distinct in
    let same = ap queue_count (alike_without g.keys.items old new h.is_queue t h.others) in
    let less = h.less in
    omega (arith, before, after, same, less, m, a, e)
