-- The order of the keys is kept, and what is past a bound.
use Rattle.std.proofs.Common.{◌≡◌, Bool, true, false, not, cond, List, [], ◌∷◌, ◌++◌, Some, refl, ap, ◌∙◌}
use Rattle.std.specs.Prelude.{find}
use Rattle.std.specs.declared.cmp.Ordering.{Ordering}
use Rattle.std.specs.declared.cmp.Ordering.TheVariants.{Less, Equal, Greater}
use Rattle.std.specs.declared.ops.Bound.{Bound}
use Rattle.std.specs.declared.ops.Bound.TheVariants.{Included, Excluded, Unbounded}
use denote.Ref.{Bor}
use Rattle.std.specs.Ordering.{is_lt, is_gt, match_ordering}
use Rattle.std.specs.Cmp.{IsTotalOrder}
use Rattle.std.specs.List.Sorted.{IsStrictlySortedBy}
use Rattle.std.specs.Map.{remove_entry, keys_of}
use Rattle.std.specs.BTreeMap.{insert_entry}
use Rattle.ordered_map.specs.Trees.{is_past}
use Rattle.ordered_map.proofs.Splits.{KeysAll, split_at, greater_from_less, less_from_greater, above_a_less}

module _ {K V : Type 0} where
  pub sorted_none : (R : K → K → Ordering) (es : List (K × V)) → es ≡ [] → IsStrictlySortedBy R (keys_of es)
  unfolding IsStrictlySortedBy
  sorted_none R [] h = tt
  sorted_none R (e ∷ es) h = cc

  keys_inserted : (R : K → K → Ordering) (P : K → Type 0) (q : K) (v : V) (es : List (K × V)) → P q → KeysAll P es → KeysAll P (insert_entry R es q v)
  keys_inserted R P q v [] new h = (new, tt)
  keys_inserted R P q v (e ∷ es) new h = by (R q e.0) (keys_inserted R P q v es new h.1)
    where
      by : (o : Ordering) → KeysAll P (insert_entry R es q v) → KeysAll P (match_ordering o ((q, v) ∷ e ∷ es) ((e.0, v) ∷ es) (e ∷ insert_entry R es q v))
      by Less rest = (new, h)
      by Equal rest = h
      by Greater rest = (h.0, rest)

  keys_removed : (t : K → Bool) (P : K → Type 0) (es : List (K × V)) → KeysAll P es → KeysAll P (remove_entry t es)
  keys_removed t P [] h = tt
  keys_removed t P (e ∷ es) h = by (t e.0) (keys_removed t P es h.1)
    where
      by : (b : Bool) → KeysAll P (remove_entry t es) → KeysAll P (cond b es (e ∷ remove_entry t es))
      by true rest = h.1
      by false rest = (h.0, rest)

  pub sorted_removed : (R : K → K → Ordering) (t : K → Bool) (es : List (K × V)) → IsStrictlySortedBy R (keys_of es) → IsStrictlySortedBy R (keys_of (remove_entry t es))
  unfolding IsStrictlySortedBy
  sorted_removed R t [] s = tt
  sorted_removed R t (e ∷ es) s = by (t e.0) (sorted_removed R t es s.1)
    where
      by : (b : Bool) → IsStrictlySortedBy R (keys_of (remove_entry t es)) → IsStrictlySortedBy R (keys_of (cond b es (e ∷ remove_entry t es)))
      by true rest = s.1
      by false rest = (keys_removed t (λ y. R e.0 y ≡ Less) es s.0, rest)

module _ {K V : Type 0} {R : K → K → Ordering} (o : IsTotalOrder R) where
  pub sorted_inserted : (q : K) (v : V) (es : List (K × V)) → IsStrictlySortedBy R (keys_of es) → IsStrictlySortedBy R (keys_of (insert_entry R es q v))
  unfolding IsStrictlySortedBy
  sorted_inserted q v [] s = (tt, tt)
  sorted_inserted q v (e ∷ es) s = by (R q e.0) refl (sorted_inserted q v es s.1)
    where
      by : (r : Ordering) → R q e.0 ≡ r → IsStrictlySortedBy R (keys_of (insert_entry R es q v)) → IsStrictlySortedBy R (keys_of (match_ordering r ((q, v) ∷ e ∷ es) ((e.0, v) ∷ es) (e ∷ insert_entry R es q v)))
      by Less h rest = ((h, above_a_less o q e.0 es h s.0), s)
      by Equal h rest = s
      by Greater h rest = (keys_inserted R (λ y. R e.0 y ≡ Less) q v es (less_from_greater o q e.0 h) s.0, rest)

-- ---- what is past a bound

module _ {K : Type 0} {R : K → K → Ordering} (o : IsTotalOrder R) where
  pub not_past_below : (start : Bound (Bor K)) (x y : K) → R x y ≡ Less → is_past R start y ≡ false → is_past R start x ≡ false
  not_past_below (Included least) x y lt h = by (R least.now y) refl h
    where
      by : (r : Ordering) → R least.now y ≡ r → not (is_gt r) ≡ false → not (is_gt (R least.now x)) ≡ false
      by Less e h = cc
      by Equal e h = cc
      by Greater e h = ap (λ (r : Ordering). not (is_gt r)) (greater_from_less o x least.now (o.trans x y least.now lt (less_from_greater o least.now y e)))
  not_past_below (Excluded below) x y lt h = by (R below.now y) refl h
    where
      by : (r : Ordering) → R below.now y ≡ r → is_lt r ≡ false → is_lt (R below.now x) ≡ false
      by Less e h = cc
      by Equal e h = ap is_lt (o.congr below.now y x e ∙ greater_from_less o x y lt)
      by Greater e h = ap is_lt (greater_from_less o x below.now (o.trans x y below.now lt (less_from_greater o below.now y e)))
  not_past_below Unbounded x y lt h = cc

module _ {K V : Type 0} {R : K → K → Ordering} (o : IsTotalOrder R) where
  none_past : (start : Bound (Bor K)) (k : K) (l m : List (K × V)) → KeysAll (λ x. R x k ≡ Less) l → is_past R start k ≡ false → find (λ e. is_past R start e.0) (l ++ m) ≡ find (λ e. is_past R start e.0) m
  none_past start k [] m b h = refl
  none_past start k (x ∷ l) m b h =
      ap (λ c. cond c (Some x) (find (λ e. is_past R start e.0) (l ++ m))) (not_past_below o start x.0 k b.0 h)
      ∙ none_past start k l m b.1 h

  -- the entry in the middle is not past the bound
  pub first_right : (start : Bound (Bor K)) (l : List (K × V)) (e : K × V) (r : List (K × V)) → IsStrictlySortedBy R (keys_of (l ++ e ∷ r)) → is_past R start e.0 ≡ false → find (λ e. is_past R start e.0) (l ++ e ∷ r) ≡ find (λ e. is_past R start e.0) r
  first_right start l e r s h =
      none_past start e.0 l (e ∷ r) (split_at R l e r s).below h
      ∙ ap (λ c. cond c (Some e) (find (λ e. is_past R start e.0) r)) h
