-- The first entry past a bound is the least of those that are there.
use Rattle.std.proofs.Common.{◌≡◌, Bool, true, false, not, cond, List, [], ◌∷◌, Some, None, is_some, refl, ap, sym, ◌∙◌, subst}
use Rattle.std.specs.Prelude.{find}
use Rattle.std.specs.declared.cmp.Ordering.{Ordering}
use Rattle.std.specs.declared.cmp.Ordering.TheVariants.{Less, Equal, Greater}
use Rattle.std.specs.declared.ops.Bound.{Bound}
use Rattle.std.specs.declared.ops.Bound.TheVariants.{Included, Excluded, Unbounded}
use denote.Ref.{Bor}
use Rattle.std.specs.Ordering.{is_eq, is_lt, is_gt, ordering_reverse}
use Rattle.std.specs.Cmp.{IsTotalOrder, tied_itself}
use Rattle.std.specs.List.Sorted.{IsStrictlySortedBy}
use Rattle.std.specs.Map.{lookup, keys_of}
use Rattle.std.specs.BTreeMap.{is_at}
use Rattle.ordered_map.specs.Trees.{is_past}
use Rattle.ordered_map.proofs.Splits.{KeysAll}

equal_from_is_eq : (r : Ordering) → is_eq r ≡ true → r ≡ Equal
equal_from_is_eq Less h = cc
equal_from_is_eq Equal h = refl
equal_from_is_eq Greater h = cc

module _ {K : Type 0} {R : K → K → Ordering} (o : IsTotalOrder R) where
  turn : (x y : K) → R x y ≡ Equal → R y x ≡ Equal
  turn x y h = o.antisymm y x ∙ ap ordering_reverse h

  -- what is equal to the second is to the first as the second is
  right_equal : (a x y : K) → R x y ≡ Equal → R a x ≡ R a y
  right_equal a x y h = o.antisymm a x ∙ ap ordering_reverse (o.congr x y a h) ∙ sym (o.antisymm a y)

  pub past_alike : (start : Bound (Bor K)) (x y : K) → R x y ≡ Equal → is_past R start x ≡ is_past R start y
  past_alike (Included least) x y h = ap (λ (r : Ordering). not (is_gt r)) (right_equal least.now x y h)
  past_alike (Excluded below) x y h = ap is_lt (right_equal below.now x y h)
  past_alike Unbounded x y h = refl

module _ {K V : Type 0} {R : K → K → Ordering} (o : IsTotalOrder R) where
  -- a key that is found among greater ones is greater
  above_found : (a k : K) (es : List (K × V)) → KeysAll (λ x. R a x ≡ Less) es → is_some (lookup (is_at (R k)) es) ≡ true → R a k ≡ Less
  above_found a k [] all h = cc
  above_found a k (e ∷ es) all h = by (R k e.0) refl h (above_found a k es all.1)
    where
      by : (r : Ordering) → R k e.0 ≡ r → is_some (cond (is_eq r) (Some e.1) (lookup (is_at (R k)) es)) ≡ true → (is_some (lookup (is_at (R k)) es) ≡ true → R a k ≡ Less) → R a k ≡ Less
      by Equal is h rest = right_equal o a k e.0 is ∙ all.0
      by Less is h rest = rest h
      by Greater is h rest = rest h

  pub none_found_past : (start : Bound (Bor K)) (es : List (K × V)) (k : K) → find (λ e. is_past R start e.0) es ≡ None → is_some (lookup (is_at (R k)) es) ≡ true → is_past R start k ≡ false
  none_found_past start [] k none h = cc
  none_found_past start (e ∷ es) k none h = by (is_past R start e.0) refl none (R k e.0) refl h (none_found_past start es k)
    where
      by : (b : Bool) → is_past R start e.0 ≡ b → cond b (Some e) (find (λ e. is_past R start e.0) es) ≡ None
          → (r : Ordering) → R k e.0 ≡ r → is_some (cond (is_eq r) (Some e.1) (lookup (is_at (R k)) es)) ≡ true
          → (find (λ e. is_past R start e.0) es ≡ None → is_some (lookup (is_at (R k)) es) ≡ true → is_past R start k ≡ false) → is_past R start k ≡ false
      by true p none r is h rest = cc
      by false p none Equal is h rest = past_alike o start k e.0 is ∙ p
      by false p none Less is h rest = rest none h
      by false p none Greater is h rest = rest none h

  -- it is there, it is past the bound, and no other that is there and past the bound is before it
  pub record IsFirst (start : Bound (Bor K)) (es : List (K × V)) (f : K × V) : Type 0 where
    pub there : lookup (is_at (R f.0)) es ≡ Some f.1
    pub past : is_past R start f.0 ≡ true
    pub first : (k : K) → is_some (lookup (is_at (R k)) es) ≡ true → is_past R start k ≡ true → is_gt (R f.0 k) ≡ false

  pub found_is_first : (start : Bound (Bor K)) (es : List (K × V)) (f : K × V) → IsStrictlySortedBy R (keys_of es) → find (λ e. is_past R start e.0) es ≡ Some f → IsFirst start es f
  unfolding IsStrictlySortedBy
  found_is_first start [] f s h = cc
  found_is_first start (e ∷ es) f s h = by (is_past R start e.0) refl h (found_is_first start es f s.1)
    where
      at_itself : lookup (is_at (R e.0)) (e ∷ es) ≡ Some e.1
      at_itself = ap (λ (r : Ordering). cond (is_eq r) (Some e.1) (lookup (is_at (R e.0)) es)) (tied_itself o e.0)

      -- of the first entry
      not_before : (k : K) → (r : Ordering) → R k e.0 ≡ r → is_some (cond (is_eq r) (Some e.1) (lookup (is_at (R k)) es)) ≡ true → is_gt (R e.0 k) ≡ false
      not_before k Equal is g = ap is_gt (turn o k e.0 is)
      not_before k Less is g = ap is_gt (above_found e.0 k es s.0 g)
      not_before k Greater is g = ap is_gt (above_found e.0 k es s.0 g)

      -- of one behind a first that is not past the bound
      there_behind : is_past R start e.0 ≡ false → IsFirst start es f → (r : Ordering) → R f.0 e.0 ≡ r → cond (is_eq r) (Some e.1) (lookup (is_at (R f.0)) es) ≡ Some f.1
      there_behind p rest Equal is = let clash = sym (past_alike o start f.0 e.0 is ∙ p) ∙ rest.past in cc
      there_behind p rest Less is = rest.there
      there_behind p rest Greater is = rest.there

      first_behind : is_past R start e.0 ≡ false → IsFirst start es f → (k : K) → (r : Ordering) → R k e.0 ≡ r → is_some (cond (is_eq r) (Some e.1) (lookup (is_at (R k)) es)) ≡ true → is_past R start k ≡ true → is_gt (R f.0 k) ≡ false
      first_behind p rest k Equal is g past = let clash = sym (past_alike o start k e.0 is ∙ p) ∙ past in cc
      first_behind p rest k Less is g past = rest.first k g past
      first_behind p rest k Greater is g past = rest.first k g past

      by : (b : Bool) → is_past R start e.0 ≡ b → cond b (Some e) (find (λ e. is_past R start e.0) es) ≡ Some f → (find (λ e. is_past R start e.0) es ≡ Some f → IsFirst start es f) → IsFirst start (e ∷ es) f
      by true p h rest =
          let same : e ≡ f = cc in
          let it : IsFirst start (e ∷ es) e = record { there = at_itself; past = p; first = λ k g past. not_before k (R k e.0) refl g } in
          subst (λ (x : K × V). IsFirst start (e ∷ es) x) same it
      by false p h rest =
          let r = rest h in
          record { there = there_behind p r (R f.0 e.0) refl; past = r.past; first = λ k g past. first_behind p r k (R k e.0) refl g past }
