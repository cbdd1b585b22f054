-- Entries in the order of their keys, split at one of them.
use Rattle.std.proofs.Common.{◌≡◌, Bool, true, false, cond, List, [], ◌∷◌, ◌++◌, Some, None, refl, ap, ◌∙◌}
use Rattle.std.specs.declared.cmp.Ordering.{Ordering}
use Rattle.std.specs.declared.cmp.Ordering.TheVariants.{Less, Equal, Greater}
use Rattle.std.specs.Ordering.{is_eq, ordering_reverse, match_ordering}
use Rattle.std.specs.Cmp.{IsTotalOrder}
use Rattle.std.specs.List.{AllByRecursion}
use Rattle.std.specs.List.Sorted.{IsStrictlySortedBy}
use Rattle.std.specs.Map.{lookup, remove_entry, keys_of}
use Rattle.std.specs.BTreeMap.{insert_entry, is_at}

module _ {K V : Type 0} where
  -- P holds of each key
  abbrev pub KeysAll : (K → Type 0) → List (K × V) → Type 0
  KeysAll P es = AllByRecursion P (keys_of es)

  pub keys_split : (P : K → Type 0) (l r : List (K × V)) → KeysAll P (l ++ r) → KeysAll P l × KeysAll P r
  keys_split P [] r h = (tt, h)
  keys_split P (x ∷ l) r h = let s = keys_split P l r h.1 in ((h.0, s.0), s.1)

  -- the parts around an entry are in order, one below its key, the other above it
  pub record IsSplit (R : K → K → Ordering) (l : List (K × V)) (k : K) (r : List (K × V)) : Type 0 where
    pub left : IsStrictlySortedBy R (keys_of l)
    pub right : IsStrictlySortedBy R (keys_of r)
    pub below : KeysAll (λ x. R x k ≡ Less) l
    pub above : KeysAll (λ x. R k x ≡ Less) r

  pub split_at : (R : K → K → Ordering) (l : List (K × V)) (e : K × V) (r : List (K × V)) → IsStrictlySortedBy R (keys_of (l ++ e ∷ r)) → IsSplit R l e.0 r
  unfolding IsStrictlySortedBy
  split_at R [] e r s = record { left = tt; right = s.1; below = tt; above = s.0 }
  split_at R (x ∷ l) e r s =
      let rest = split_at R l e r s.1 in
      let heads = keys_split (λ y. R x.0 y ≡ Less) l (e ∷ r) s.0 in
      record { left = (heads.0, rest.left); right = rest.right; below = (heads.1.0, rest.below); above = rest.above }

  -- ---- entries whose keys are all below q

  pub lookup_past : (R : K → K → Ordering) (q : K) (l m : List (K × V)) → KeysAll (λ x. R q x ≡ Greater) l → lookup (is_at (R q)) (l ++ m) ≡ lookup (is_at (R q)) m
  lookup_past R q [] m h = refl
  lookup_past R q (x ∷ l) m h = ap (λ (o : Ordering). cond (is_eq o) (Some x.1) (lookup (is_at (R q)) (l ++ m))) h.0 ∙ lookup_past R q l m h.1

  pub insert_past : (R : K → K → Ordering) (q : K) (v : V) (l m : List (K × V)) → KeysAll (λ x. R q x ≡ Greater) l → insert_entry R (l ++ m) q v ≡ l ++ insert_entry R m q v
  insert_past R q v [] m h = refl
  insert_past R q v (x ∷ l) m h =
      ap (λ (o : Ordering). match_ordering o ((q, v) ∷ x ∷ (l ++ m)) ((x.0, v) ∷ (l ++ m)) (x ∷ insert_entry R (l ++ m) q v)) h.0
      ∙ ap (λ (t : List (K × V)). x ∷ t) (insert_past R q v l m h.1)

  pub remove_past : (R : K → K → Ordering) (q : K) (l m : List (K × V)) → KeysAll (λ x. R q x ≡ Greater) l → remove_entry (is_at (R q)) (l ++ m) ≡ l ++ remove_entry (is_at (R q)) m
  remove_past R q [] m h = refl
  remove_past R q (x ∷ l) m h =
      ap (λ (o : Ordering). cond (is_eq o) (l ++ m) (x ∷ remove_entry (is_at (R q)) (l ++ m))) h.0
      ∙ ap (λ (t : List (K × V)). x ∷ t) (remove_past R q l m h.1)

  -- ---- entries whose keys are all above q

  pub lookup_short : (R : K → K → Ordering) (q : K) (r : List (K × V)) → KeysAll (λ x. R q x ≡ Less) r → lookup (is_at (R q)) r ≡ None
  lookup_short R q [] h = refl
  lookup_short R q (x ∷ r) h = ap (λ (o : Ordering). cond (is_eq o) (Some x.1) (lookup (is_at (R q)) r)) h.0 ∙ lookup_short R q r h.1

  pub remove_short : (R : K → K → Ordering) (q : K) (r : List (K × V)) → KeysAll (λ x. R q x ≡ Less) r → remove_entry (is_at (R q)) r ≡ r
  remove_short R q [] h = refl
  remove_short R q (x ∷ r) h =
      ap (λ (o : Ordering). cond (is_eq o) r (x ∷ remove_entry (is_at (R q)) r)) h.0
      ∙ ap (λ (t : List (K × V)). x ∷ t) (remove_short R q r h.1)

  -- ---- what is before the entries whose keys are above q

  pub lookup_before : (R : K → K → Ordering) (q : K) (l m : List (K × V)) → KeysAll (λ x. R q x ≡ Less) m → lookup (is_at (R q)) (l ++ m) ≡ lookup (is_at (R q)) l
  lookup_before R q [] m h = lookup_short R q m h
  lookup_before R q (x ∷ l) m h = ap (λ o. cond (is_eq (R q x.0)) (Some x.1) o) (lookup_before R q l m h)

  pub insert_before : (R : K → K → Ordering) (q : K) (v : V) (l : List (K × V)) (e : K × V) (r : List (K × V)) → R q e.0 ≡ Less → insert_entry R (l ++ e ∷ r) q v ≡ insert_entry R l q v ++ e ∷ r
  insert_before R q v [] e r h = ap (λ (o : Ordering). match_ordering o ((q, v) ∷ e ∷ r) ((e.0, v) ∷ r) (e ∷ insert_entry R r q v)) h
  insert_before R q v (x ∷ l) e r h = by (R q x.0) (insert_before R q v l e r h)
    where
      by : (o : Ordering) → insert_entry R (l ++ e ∷ r) q v ≡ insert_entry R l q v ++ e ∷ r
          → match_ordering o ((q, v) ∷ x ∷ (l ++ e ∷ r)) ((x.0, v) ∷ (l ++ e ∷ r)) (x ∷ insert_entry R (l ++ e ∷ r) q v) ≡ match_ordering o ((q, v) ∷ x ∷ l) ((x.0, v) ∷ l) (x ∷ insert_entry R l q v) ++ e ∷ r
      by Less rest = refl
      by Equal rest = refl
      by Greater rest = ap (λ (t : List (K × V)). x ∷ t) rest

  pub remove_before : (R : K → K → Ordering) (q : K) (l m : List (K × V)) → KeysAll (λ x. R q x ≡ Less) m → remove_entry (is_at (R q)) (l ++ m) ≡ remove_entry (is_at (R q)) l ++ m
  remove_before R q [] m h = remove_short R q m h
  remove_before R q (x ∷ l) m h = by (is_at (R q) x.0) (remove_before R q l m h)
    where
      by : (b : Bool) → remove_entry (is_at (R q)) (l ++ m) ≡ remove_entry (is_at (R q)) l ++ m → cond b (l ++ m) (x ∷ remove_entry (is_at (R q)) (l ++ m)) ≡ cond b l (x ∷ remove_entry (is_at (R q)) l) ++ m
      by true rest = refl
      by false rest = ap (λ (t : List (K × V)). x ∷ t) rest

-- ---- keys around a key

module _ {K : Type 0} {R : K → K → Ordering} (o : IsTotalOrder R) where
  pub greater_from_less : (x y : K) → R x y ≡ Less → R y x ≡ Greater
  greater_from_less x y h = o.antisymm y x ∙ ap ordering_reverse h

  pub less_from_greater : (x y : K) → R x y ≡ Greater → R y x ≡ Less
  less_from_greater x y h = o.antisymm y x ∙ ap ordering_reverse h

module _ {K V : Type 0} {R : K → K → Ordering} (o : IsTotalOrder R) where
  pub below_a_greater : (q k : K) (l : List (K × V)) → R q k ≡ Greater → KeysAll (λ x. R x k ≡ Less) l → KeysAll (λ x. R q x ≡ Greater) l
  below_a_greater q k [] h b = tt
  below_a_greater q k (x ∷ l) h b = (greater_from_less o x.0 q (o.trans x.0 k q b.0 (less_from_greater o q k h)), below_a_greater q k l h b.1)

  pub below_an_equal : (q k : K) (l : List (K × V)) → R q k ≡ Equal → KeysAll (λ x. R x k ≡ Less) l → KeysAll (λ x. R q x ≡ Greater) l
  below_an_equal q k [] h b = tt
  below_an_equal q k (x ∷ l) h b = (o.congr q k x.0 h ∙ greater_from_less o x.0 k b.0, below_an_equal q k l h b.1)

  pub above_a_less : (q k : K) (r : List (K × V)) → R q k ≡ Less → KeysAll (λ x. R k x ≡ Less) r → KeysAll (λ x. R q x ≡ Less) r
  above_a_less q k [] h b = tt
  above_a_less q k (x ∷ r) h b = (o.trans q k x.0 h b.0, above_a_less q k r h b.1)

  module _ (l : List (K × V)) (e : K × V) (r : List (K × V)) (s : IsStrictlySortedBy R (keys_of (l ++ e ∷ r))) (q : K) where
    parts : IsSplit R l e.0 r
    parts = split_at R l e r s

    after_here : R q e.0 ≡ Less → KeysAll (λ x. R q x ≡ Less) (e ∷ r)
    after_here h = (h, above_a_less q e.0 r h parts.above)

    pub lookup_left : R q e.0 ≡ Less → lookup (is_at (R q)) (l ++ e ∷ r) ≡ lookup (is_at (R q)) l
    lookup_left h = lookup_before R q l (e ∷ r) (after_here h)

    pub lookup_here : R q e.0 ≡ Equal → lookup (is_at (R q)) (l ++ e ∷ r) ≡ Some e.1
    lookup_here h =
        lookup_past R q l (e ∷ r) (below_an_equal q e.0 l h parts.below)
        ∙ ap (λ (o : Ordering). cond (is_eq o) (Some e.1) (lookup (is_at (R q)) r)) h

    pub lookup_right : R q e.0 ≡ Greater → lookup (is_at (R q)) (l ++ e ∷ r) ≡ lookup (is_at (R q)) r
    lookup_right h =
        lookup_past R q l (e ∷ r) (below_a_greater q e.0 l h parts.below)
        ∙ ap (λ (o : Ordering). cond (is_eq o) (Some e.1) (lookup (is_at (R q)) r)) h

    pub insert_here : (v : V) → R q e.0 ≡ Equal → insert_entry R (l ++ e ∷ r) q v ≡ l ++ (e.0, v) ∷ r
    insert_here v h =
        insert_past R q v l (e ∷ r) (below_an_equal q e.0 l h parts.below)
        ∙ ap (λ (o : Ordering). l ++ match_ordering o ((q, v) ∷ e ∷ r) ((e.0, v) ∷ r) (e ∷ insert_entry R r q v)) h

    pub insert_right : (v : V) → R q e.0 ≡ Greater → insert_entry R (l ++ e ∷ r) q v ≡ l ++ e ∷ insert_entry R r q v
    insert_right v h =
        insert_past R q v l (e ∷ r) (below_a_greater q e.0 l h parts.below)
        ∙ ap (λ (o : Ordering). l ++ match_ordering o ((q, v) ∷ e ∷ r) ((e.0, v) ∷ r) (e ∷ insert_entry R r q v)) h

    pub remove_left : R q e.0 ≡ Less → remove_entry (is_at (R q)) (l ++ e ∷ r) ≡ remove_entry (is_at (R q)) l ++ e ∷ r
    remove_left h = remove_before R q l (e ∷ r) (after_here h)

    pub remove_here : R q e.0 ≡ Equal → remove_entry (is_at (R q)) (l ++ e ∷ r) ≡ l ++ r
    remove_here h =
        remove_past R q l (e ∷ r) (below_an_equal q e.0 l h parts.below)
        ∙ ap (λ (o : Ordering). l ++ cond (is_eq o) r (e ∷ remove_entry (is_at (R q)) r)) h

    pub remove_right : R q e.0 ≡ Greater → remove_entry (is_at (R q)) (l ++ e ∷ r) ≡ l ++ e ∷ remove_entry (is_at (R q)) r
    remove_right h =
        remove_past R q l (e ∷ r) (below_a_greater q e.0 l h parts.below)
        ∙ ap (λ (o : Ordering). l ++ cond (is_eq o) r (e ∷ remove_entry (is_at (R q)) r)) h
