-- What changes leave under each key, and that the order in which keys are changed makes no difference.
use Rattle.std.proofs.Common.{◌≡◌, Bool, true, false, cond, [], ◌∷◌, Option, Some, None, refl, ap, sym, ◌∙◌}
use Rattle.std.specs.Prelude.{unwrap_or, find}
use Rattle.std.specs.Option.{option_map}
use Rattle.std.specs.declared.ops.Bound.{Bound}
use denote.Ref.{Bor}
use Rattle.ordered_map.specs.Trees.{is_past}
use Rattle.std.specs.declared.cmp.Ordering.{Ordering}
use Rattle.std.specs.declared.cmp.Ordering.TheVariants.{Less, Equal, Greater}
use Rattle.std.specs.Ordering.{is_eq, nat_cmp, ordering_then}
use Rattle.std.specs.List.Sorted.{IsStrictlySortedBy}
use Rattle.std.specs.Map.{lookup, remove_entry, keys_of}
use Rattle.std.specs.BTreeMap.{insert_entry}
use Rattle.std.proofs.lemmas.Map.Lookups.{CmpEqualImpliesEq, exact_unsigned}
use Rattle.ad_tree.specs.Ad.{Attributes}
use Rattle.ordered_map.proofs.Splits.{lookup_short, KeysAll}
use Rattle.ordered_map.proofs.Orders.{sorted_inserted, sorted_removed}
use Rattle.ordered_map.proofs.Maps.{lookup-insert_entry, lookup-removed, entries_from_lookups}
use Rattle.queue_tx.specs.declared.key.Key.{Key}
use Rattle.queue_tx.specs.declared.key.Key.TheVariants.{Header, Proc}
use Rattle.queue_tx.specs.Keys.{key_cmp, same_key, is_above, key_cmp_total, same_key_laws}
use Rattle.queue_tx.specs.Queues.{KeyedAds, Changes, IsQueue, ad_at, key_after, with_ad, with_changes}

-- ---- keys that the order finds equal are equal

pub then_equal : (r s : Ordering) → ordering_then r s ≡ Equal → (r ≡ Equal) × (s ≡ Equal)
then_equal Less s h = cc
then_equal Equal s h = (refl, h)
then_equal Greater s h = cc

pub exact_keys : CmpEqualImpliesEq key_cmp
exact_keys Header Header h = refl
exact_keys Header (Proc b) h = cc
exact_keys (Proc a) Header h = cc
exact_keys (Proc a) (Proc b) h =
    let parts = then_equal (nat_cmp a.cluster b.cluster) (nat_cmp a.proc b.proc) h in
    let clusters = exact_unsigned a.cluster b.cluster parts.0 in
    let procs = exact_unsigned a.proc b.proc parts.1 in
    λ i. Proc (record { cluster = clusters i; proc = procs i })

-- ---- what stands under a key

pub ordered_with : (k : Key) (a : Option Attributes) (q : KeyedAds) → IsQueue q → IsQueue (with_ad k a q)
ordered_with k None q s = sorted_removed key_cmp (same_key k) q s
ordered_with k (Some ad) q s = sorted_inserted key_cmp_total k ad q s

pub found_with : (p k : Key) (a : Option Attributes) (q : KeyedAds) → IsQueue q → ad_at p (with_ad k a q) ≡ cond (same_key k p) a (ad_at p q)
found_with p k None q s = lookup-removed key_cmp_total p k q s
found_with p k (Some ad) q s = lookup-insert_entry key_cmp_total p k ad q

pub ordered_changed : (q : KeyedAds) (cs : Changes) → IsQueue q → IsQueue (with_changes q cs)
ordered_changed q [] s = s
ordered_changed q (c ∷ cs) s = ordered_changed (with_ad c.0 c.1 q) cs (ordered_with c.0 c.1 q s)

abbrev pub AreChanges : Changes → Type 0
AreChanges cs = IsStrictlySortedBy key_cmp (keys_of cs)

same_back : (p k : Key) → same_key k p ≡ same_key p k
same_back p k = same_key_laws.symm k p

-- nothing is changed under a key that is before the others
first_alone : (c : Key × Option Attributes) (cs : Changes) (p : Key) → AreChanges (c ∷ cs) → same_key p c.0 ≡ true → lookup (same_key p) cs ≡ None
unfolding IsStrictlySortedBy
first_alone c cs p s h = lookup_short key_cmp p cs (by (key_cmp p c.0) refl h)
  where
    below : (r : Ordering) → key_cmp p c.0 ≡ r → is_eq r ≡ true → (es : Changes) → KeysAll (λ x. key_cmp c.0 x ≡ Less) es → KeysAll (λ x. key_cmp p x ≡ Less) es
    below Less e i es a = cc
    below Greater e i es a = cc
    below Equal e i [] a = tt
    below Equal e i (x ∷ es) a = (key_cmp_total.congr p c.0 x.0 e ∙ a.0, below Equal e i es a.1)

    by : (r : Ordering) → key_cmp p c.0 ≡ r → is_eq r ≡ true → KeysAll (λ x. key_cmp p x ≡ Less) cs
    by r e i = below r e i cs s.0

tail_of : (c : Key × Option Attributes) (cs : Changes) → AreChanges (c ∷ cs) → AreChanges cs
unfolding IsStrictlySortedBy
tail_of c cs s = s.1

pub found_changed : (p : Key) (q : KeyedAds) (cs : Changes) → IsQueue q → AreChanges cs → ad_at p (with_changes q cs) ≡ unwrap_or (lookup (same_key p) cs) (ad_at p q)
found_changed p q [] s a = refl
found_changed p q (c ∷ cs) s a =
    found_changed p (with_ad c.0 c.1 q) cs (ordered_with c.0 c.1 q s) (tail_of c cs a)
    ∙ ap (unwrap_or (lookup (same_key p) cs)) (found_with p c.0 c.1 q s ∙ ap (λ b. cond b c.1 (ad_at p q)) (same_back p c.0))
    ∙ by (same_key p c.0) refl
  where
    by : (b : Bool) → same_key p c.0 ≡ b → unwrap_or (lookup (same_key p) cs) (cond b c.1 (ad_at p q)) ≡ unwrap_or (cond b (Some c.1) (lookup (same_key p) cs)) (ad_at p q)
    by true h = ap (λ o. unwrap_or o c.1) (first_alone c cs p a h)
    by false h = refl

pub queues_from_lookups : (q r : KeyedAds) → IsQueue q → IsQueue r → ((p : Key) → ad_at p q ≡ ad_at p r) → q ≡ r
queues_from_lookups q r s t h = entries_from_lookups key_cmp_total exact_keys q r s t h

-- ---- one change more

-- a change that takes the place of one under the same key
pub changed_again : (k : Key) (a : Option Attributes) (q : KeyedAds) (cs : Changes) → IsQueue q → AreChanges cs
    → with_changes q (insert_entry key_cmp (remove_entry (same_key k) cs) k a) ≡ with_ad k a (with_changes q cs)
changed_again k a q cs s t =
    queues_from_lookups (with_changes q (insert_entry key_cmp (remove_entry (same_key k) cs) k a)) (with_ad k a (with_changes q cs)) (ordered_changed q (insert_entry key_cmp (remove_entry (same_key k) cs) k a) s) (ordered_with k a (with_changes q cs) (ordered_changed q cs s)) (λ p.
    found_changed p q (insert_entry key_cmp (remove_entry (same_key k) cs) k a) s new
    ∙ ap (λ o. unwrap_or o (ad_at p q)) (lookup-insert_entry key_cmp_total p k a (remove_entry (same_key k) cs) ∙ ap (cond (same_key k p) (Some a)) (lookup-removed key_cmp_total p k cs t))
    ∙ by p (same_key k p)
    ∙ ap (cond (same_key k p) a) (sym (found_changed p q cs s t))
    ∙ sym (found_with p k a (with_changes q cs) (ordered_changed q cs s)))
  where
    new : AreChanges (insert_entry key_cmp (remove_entry (same_key k) cs) k a)
    new = sorted_inserted key_cmp_total k a (remove_entry (same_key k) cs) (sorted_removed key_cmp (same_key k) cs t)

    by : (p : Key) (b : Bool) → unwrap_or (cond b (Some a) (cond b None (lookup (same_key p) cs))) (ad_at p q) ≡ cond b a (unwrap_or (lookup (same_key p) cs) (ad_at p q))
    by p true = refl
    by p false = refl

-- ---- the first key past a bound

first_of_keys : (p : Key → Bool) (q : KeyedAds) → find p (keys_of q) ≡ option_map (λ e. e.0) (find (λ e. p e.0) q)
first_of_keys p [] = refl
first_of_keys p (e ∷ q) = by (p e.0) (first_of_keys p q)
  where
    by : (b : Bool) → find p (keys_of q) ≡ option_map (λ e. e.0) (find (λ e. p e.0) q) → cond b (Some e.0) (find p (keys_of q)) ≡ option_map (λ e. e.0) (cond b (Some e) (find (λ e. p e.0) q))
    by true rest = refl
    by false rest = rest

pub key_of_first : (start : Bound (Bor Key)) (bound : Option Key) (q : KeyedAds) (o : Option (Key × Attributes)) → ((k : Key) → is_past key_cmp start k ≡ is_above bound k)
    → o ≡ find (λ e. is_past key_cmp start e.0) q → option_map (λ e. e.0) o ≡ key_after bound q
key_of_first start bound q o same h =
    ap (option_map (λ e. e.0)) h
    ∙ sym (first_of_keys (is_past key_cmp start) q)
    ∙ ap (λ (p : Key → Bool). find p (keys_of q)) (λ i k. same k i)
