-- Entries in order as a map: what is found after a change, and that what is found tells them apart.
use Rattle.std.proofs.Common.{◌≡◌, Bool, true, false, cond, List, [], ◌∷◌, Option, Some, None, refl, ap, sym, ◌∙◌}
use Rattle.std.specs.declared.cmp.Ordering.{Ordering}
use Rattle.std.specs.declared.cmp.Ordering.TheVariants.{Less, Equal, Greater}
use Rattle.std.specs.Ordering.{is_eq, ordering_reverse, match_ordering}
use Rattle.std.specs.Cmp.{IsTotalOrder, eq_by_cmp_equiv, tied_itself}
use Rattle.std.specs.List.Sorted.{IsStrictlySortedBy}
use Rattle.std.specs.Map.{lookup, remove_entry, keys_of}
use Rattle.std.specs.BTreeMap.{insert_entry, is_at}
use Rattle.std.proofs.lemmas.Map.{lookup-remove_entry}
use Rattle.std.proofs.lemmas.Map.Keys.{IsDistinct-from_sorted}
use Rattle.std.proofs.lemmas.Map.Lookups.{CmpEqualImpliesEq}
use Rattle.ordered_map.proofs.Splits.{KeysAll, lookup_short, less_from_greater}

module _ {K : Type 0} {R : K → K → Ordering} (o : IsTotalOrder R) where
  equal_back : (x y : K) → R x y ≡ Equal → R y x ≡ Equal
  equal_back x y h = o.antisymm y x ∙ ap ordering_reverse h

  -- a key is equal to one of two equal keys as to the other
  is_at_equal : (q k x : K) → R k x ≡ Equal → is_at (R q) x ≡ is_at (R k) q
  is_at_equal q k x h =
      -- R q x is R x q turned round, and R x q is R k q
      ap is_eq (o.antisymm q x ∙ ap ordering_reverse (sym (o.congr k x q h))) ∙ turned (R k q)
    where
      turned : (r : Ordering) → is_eq (ordering_reverse r) ≡ is_eq r
      turned Less = refl
      turned Equal = refl
      turned Greater = refl

  is_at_back : (q k : K) → is_at (R q) k ≡ is_at (R k) q
  is_at_back q k = is_at_equal q k k (tied_itself o k)

module _ {K V : Type 0} {R : K → K → Ordering} (o : IsTotalOrder R) where
  pub lookup-insert_entry : (q k : K) (v : V) (es : List (K × V)) → lookup (is_at (R q)) (insert_entry R es k v) ≡ cond (is_at (R k) q) (Some v) (lookup (is_at (R q)) es)
  lookup-insert_entry q k v [] = ap (λ b. cond b (Some v) None) (is_at_back o q k)
  lookup-insert_entry q k v (e ∷ es) = by (R k e.0) refl (lookup-insert_entry q k v es)
    where
      at_k : cond (is_at (R q) k) (Some v) (cond (is_at (R q) e.0) (Some e.1) (lookup (is_at (R q)) es)) ≡ cond (is_at (R k) q) (Some v) (cond (is_at (R q) e.0) (Some e.1) (lookup (is_at (R q)) es))
      at_k = ap (λ b. cond b (Some v) (cond (is_at (R q) e.0) (Some e.1) (lookup (is_at (R q)) es))) (is_at_back o q k)

      twice : (b : Bool) (x y z : Option V) → cond b x z ≡ cond b x (cond b y z)
      twice true x y z = refl
      twice false x y z = refl

      -- where both keys are q's, they are equal
      apart : (r s : Ordering) → R q e.0 ≡ r → R k q ≡ s → R k e.0 ≡ Greater → cond (is_eq r) (Some e.1) (cond (is_eq s) (Some v) (lookup (is_at (R q)) es)) ≡ cond (is_eq s) (Some v) (cond (is_eq r) (Some e.1) (lookup (is_at (R q)) es))
      apart Less s e1 e2 g = refl
      apart Greater s e1 e2 g = refl
      apart Equal Less e1 e2 g = refl
      apart Equal Greater e1 e2 g = refl
      apart Equal Equal e1 e2 g = let same : R k e.0 ≡ Equal = o.congr k q e.0 e2 ∙ e1 in let clash = sym same ∙ g in cc

      by : (r : Ordering) → R k e.0 ≡ r → lookup (is_at (R q)) (insert_entry R es k v) ≡ cond (is_at (R k) q) (Some v) (lookup (is_at (R q)) es)
          → lookup (is_at (R q)) (match_ordering r ((k, v) ∷ e ∷ es) ((e.0, v) ∷ es) (e ∷ insert_entry R es k v)) ≡ cond (is_at (R k) q) (Some v) (cond (is_at (R q) e.0) (Some e.1) (lookup (is_at (R q)) es))
      by Less h rest = at_k
      by Equal h rest =
          ap (λ b. cond b (Some v) (lookup (is_at (R q)) es)) (is_at_equal o q k e.0 h)
          ∙ twice (is_at (R k) q) (Some v) (Some e.1) (lookup (is_at (R q)) es)
          ∙ ap (λ b. cond (is_at (R k) q) (Some v) (cond b (Some e.1) (lookup (is_at (R q)) es))) (sym (is_at_equal o q k e.0 h))
      by Greater h rest =
          ap (λ t. cond (is_at (R q) e.0) (Some e.1) t) rest ∙ apart (R q e.0) (R k q) refl refl h

  pub lookup-removed : (q k : K) (es : List (K × V)) → IsStrictlySortedBy R (keys_of es) → lookup (is_at (R q)) (remove_entry (is_at (R k)) es) ≡ cond (is_at (R k) q) None (lookup (is_at (R q)) es)
  lookup-removed q k es s = lookup-remove_entry (eq_by_cmp_equiv o) (is_at (R k)) (λ x y h. is_at_equal' x y h) q es (IsDistinct-from_sorted R (keys_of es) s)
    where
      equal_from_is_at : (r : Ordering) → is_eq r ≡ true → r ≡ Equal
      equal_from_is_at Less h = cc
      equal_from_is_at Equal h = refl
      equal_from_is_at Greater h = cc

      is_at_equal' : (x y : K) → is_at (R k) x ≡ true → is_at (R k) y ≡ is_eq (R x y)
      is_at_equal' x y h = ap is_eq (o.congr k x y (equal_from_is_at (R k x) h))

  -- ---- entries with the same at each key

  found_first : (e : K × V) (es : List (K × V)) → lookup (is_at (R e.0)) (e ∷ es) ≡ Some e.1
  found_first e es = ap (λ (r : Ordering). cond (is_eq r) (Some e.1) (lookup (is_at (R e.0)) es)) (tied_itself o e.0)

  equal_to_below : (q k : K) (es : List (K × V)) → R q k ≡ Equal → KeysAll (λ x. R k x ≡ Less) es → KeysAll (λ x. R q x ≡ Less) es
  equal_to_below q k [] h a = tt
  equal_to_below q k (x ∷ es) h a = (o.congr q k x.0 h ∙ a.0, equal_to_below q k es h a.1)

  less_to_all : (q k : K) (es : List (K × V)) → R q k ≡ Less → KeysAll (λ x. R k x ≡ Less) es → KeysAll (λ x. R q x ≡ Less) es
  less_to_all q k [] h a = tt
  less_to_all q k (x ∷ es) h a = (o.trans q k x.0 h a.0, less_to_all q k es h a.1)

  pub entries_from_lookups : CmpEqualImpliesEq R → (es fs : List (K × V)) → IsStrictlySortedBy R (keys_of es) → IsStrictlySortedBy R (keys_of fs) → ((q : K) → lookup (is_at (R q)) es ≡ lookup (is_at (R q)) fs) → es ≡ fs
  unfolding IsStrictlySortedBy
  entries_from_lookups exact [] [] s t h = refl
  entries_from_lookups exact [] (f ∷ fs) s t h = let clash = h f.0 ∙ found_first f fs in cc
  entries_from_lookups exact (e ∷ es) [] s t h = let clash = sym (h e.0) ∙ found_first e es in cc
  entries_from_lookups exact (e ∷ es) (f ∷ fs) s t h = by (R e.0 f.0) refl (λ tails. entries_from_lookups exact es fs s.1 t.1 tails)
    where
      value : R e.0 f.0 ≡ Equal → e.1 ≡ f.1
      value q = let both : Some e.1 ≡ Some f.1 = sym (found_first e es) ∙ h e.0 ∙ ap (λ (r : Ordering). cond (is_eq r) (Some f.1) (lookup (is_at (R e.0)) fs)) q in cc

      to_other : (q : K) (r : Ordering) → R e.0 f.0 ≡ Equal → R q e.0 ≡ r → R q f.0 ≡ r
      to_other q r same here =
          o.antisymm q f.0 ∙ ap ordering_reverse (sym (o.congr e.0 f.0 q same)) ∙ sym (o.antisymm q e.0) ∙ here

      -- at a key of the first entry both have nothing behind it, at another both have what they had
      behind : R e.0 f.0 ≡ Equal → (q : K) → (r : Ordering) → R q e.0 ≡ r → lookup (is_at (R q)) es ≡ lookup (is_at (R q)) fs
      behind same q Equal here =
          lookup_short R q es (equal_to_below q e.0 es here s.0)
          ∙ sym (lookup_short R q fs (equal_to_below q f.0 fs (to_other q Equal same here) t.0))
      behind same q Less here =
          ap (λ (r : Ordering). cond (is_eq r) (Some e.1) (lookup (is_at (R q)) es)) (sym here)
          ∙ h q
          ∙ ap (λ (r : Ordering). cond (is_eq r) (Some f.1) (lookup (is_at (R q)) fs)) (to_other q Less same here)
      behind same q Greater here =
          ap (λ (r : Ordering). cond (is_eq r) (Some e.1) (lookup (is_at (R q)) es)) (sym here)
          ∙ h q
          ∙ ap (λ (r : Ordering). cond (is_eq r) (Some f.1) (lookup (is_at (R q)) fs)) (to_other q Greater same here)

      by : (r : Ordering) → R e.0 f.0 ≡ r → (((q : K) → lookup (is_at (R q)) es ≡ lookup (is_at (R q)) fs) → es ≡ fs) → e ∷ es ≡ f ∷ fs
      by Less l tails = let clash = sym (found_first e es) ∙ h e.0 ∙ lookup_short R e.0 (f ∷ fs) (l, less_to_all e.0 f.0 fs l t.0) in cc
      by Greater l tails =
          let back = less_from_greater o e.0 f.0 l in
          let clash = sym (found_first f fs) ∙ sym (h f.0) ∙ lookup_short R f.0 (e ∷ es) (back, less_to_all f.0 e.0 es back s.0) in cc
      by Equal l tails =
          let rest = tails (λ q. behind l q (R q e.0) refl) in
          λ i. (exact e.0 f.0 l i, value l i) ∷ rest i
