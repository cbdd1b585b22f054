-- What stands at places of a table: look-ups, removals, and all of it.
use Rattle.std.specs.Prelude.{zero, suc}
use Rattle.std.proofs.Common.{◌≡◌, ℕ, ◌+◌, ◌<◌, ◌≤◌, ◌==◌, slice_get, Bool, true, false, cond, List, [], ◌∷◌, ◌++◌, length, take, Option, Some, None, is_some, IsSome, IsTrue, refl, ap, sym, ◌∙◌, subst, arith, position}
use Rattle.std.specs.Option.{option_map}
use Rattle.std.specs.List.{range_with_len, remove, position_from}
use Rattle.std.proofs.lemmas.List.FromFn.{length-range_with_len}
use Rattle.std.proofs.lemmas.List.Edits.{length-remove}
use Rattle.std.proofs.lemmas.Iterator.Adapters.{position_from-zero}
use Rattle.std.proofs.lemmas.List.Quantifiers.{position-Some}
use Rattle.std.proofs.lemmas.List.{length-map}
use Rattle.std.proofs.lemmas.Bool.{eqb-true, eqb-false}
use Rattle.std.proofs.lemmas.Option.{slice_get-get_or}
use Rattle.ad_tree.specs.Tree.{Tree, items, no_trees}
use Rattle.ad_value.specs.Names.{same_name}
use Rattle.ad_tree.specs.NameLaws.{same_name_equivalence}
use Rattle.ad_tree.specs.Ad.{Attributes, names, lookup, place_of, with_attribute, without, AreDistinct}
use Rattle.ad_tree.specs.Places.{attribute_at, attributes_at, AreBelow, AreAll, IsAdOver}
use Rattle.ad_tree.proofs.AdLemmas.{none_at, other_way, is_some-option_map, IsSome-from, AreDistinct-without, AreDistinct-with_attribute, length-with_attribute-le, length-with_attribute-within}

-- ---- the first place at which a test passes, by recursion
abbrev found : {A : Type 0} → (A → Bool) → List A → Option ℕ
found p [] = None
found p (x ∷ xs) = cond (p x) (Some 0) (option_map suc (found p xs))

position_from-suc : {A : Type 0} (p : A → Bool) (i : ℕ) (xs : List A) → position_from p (i + 1) xs ≡ option_map suc (position_from p i xs)
position_from-suc p i [] = refl
position_from-suc p i (x ∷ xs) = by (p x) (position_from-suc p (i + 1) xs)
  where
    by : (b : Bool) → position_from p (i + 1 + 1) xs ≡ option_map suc (position_from p (i + 1) xs) → cond b (Some (i + 1)) (position_from p (i + 1 + 1) xs) ≡ option_map suc (cond b (Some i) (position_from p (i + 1) xs))
    by true rest = ap Some (omega arith)
    by false rest = rest

position_from-found : {A : Type 0} (p : A → Bool) (xs : List A) → position_from p 0 xs ≡ found p xs
position_from-found p [] = refl
position_from-found p (x ∷ xs) = ap (cond (p x) (Some 0)) (position_from-suc p 0 xs ∙ ap (option_map suc) (position_from-found p xs))

position-found : {A : Type 0} (p : A → Bool) (xs : List A) → position p xs ≡ found p xs
position-found p xs = position_from-zero p xs ∙ position_from-found p xs

-- ---- what is found in an ad
abbrev at_found : Attributes → Option ℕ → Option Tree
at_found ad None = None
at_found ad (Some p) = option_map (λ a. a.1) (slice_get ad p)

lookup-found : (x : List ℕ) (ad : Attributes) → lookup x ad ≡ at_found ad (found (same_name x) (names ad))
lookup-found x [] = refl
lookup-found x (a ∷ ad) = by (same_name x a.0) (found (same_name x) (names ad)) (lookup-found x ad)
  where
    by : (b : Bool) (o : Option ℕ) → lookup x ad ≡ at_found ad o → cond b (Some a.1) (lookup x ad) ≡ at_found (a ∷ ad) (cond b (Some 0) (option_map suc o))
    by true o e = refl
    by false None e = e
    by false (Some p) e = e

none_some : {A : Type 0} {y : A} → None ≡ Some y → ⊥
none_some e = cc

some_none : {A : Type 0} {y : A} → Some y ≡ None → ⊥
some_none e = cc

some_is : {A : Type 0} {y z : A} → Some y ≡ Some z → y ≡ z
some_is e = cc

without-found : (x : List ℕ) (ad : Attributes) (p : ℕ) → found (same_name x) (names ad) ≡ Some p → without x ad ≡ remove ad p
without-found x [] p e = absurd (none_some e)
without-found x (a ∷ ad) p e = by (same_name x a.0) (found (same_name x) (names ad)) (without-found x ad) e
  where
    by : (b : Bool) (o : Option ℕ) → ((q : ℕ) → o ≡ Some q → without x ad ≡ remove ad q) → cond b (Some 0) (option_map suc o) ≡ Some p → cond b ad (a ∷ without x ad) ≡ remove (a ∷ ad) p
    by true o rest e = ap (remove (a ∷ ad)) (some_is e)
    by false None rest e = absurd (none_some e)
    by false (Some q) rest e = ap (λ l. a ∷ l) (rest q refl) ∙ ap (remove (a ∷ ad)) (some_is e)

without-absent : (x : List ℕ) (ad : Attributes) → found (same_name x) (names ad) ≡ None → without x ad ≡ ad
without-absent x [] e = refl
without-absent x (a ∷ ad) e = by (same_name x a.0) (found (same_name x) (names ad)) (without-absent x ad) e
  where
    by : (b : Bool) (o : Option ℕ) → (o ≡ None → without x ad ≡ ad) → cond b (Some 0) (option_map suc o) ≡ None → cond b ad (a ∷ without x ad) ≡ a ∷ ad
    by true o rest e = absurd (some_none e)
    by false None rest e = ap (λ l. a ∷ l) (rest refl)
    by false (Some q) rest e = absurd (some_none e)

-- ---- an attribute of a table bears a name exactly at the name's place
abbrev is_at : ℕ → Option ℕ → Bool
is_at k None = false
is_at k (Some p) = k == p

is_at-zero : (o : Option ℕ) → is_at 0 (option_map suc o) ≡ false
is_at-zero None = refl
is_at-zero (Some p) = by (0 == suc p) refl
  where
    by : (b : Bool) → (0 == suc p) ≡ b → (0 == suc p) ≡ false
    by true is = absurd (omega (arith, eqb-true 0 (suc p) is))
    by false is = is

is_at-first : (k : ℕ) → is_at (suc k) (Some 0) ≡ false
is_at-first k = by (suc k == 0) refl
  where
    by : (b : Bool) → (suc k == 0) ≡ b → (suc k == 0) ≡ false
    by true is = absurd (omega (arith, eqb-true (suc k) 0 is))
    by false is = is

is_at-suc : (k : ℕ) (o : Option ℕ) → is_at (suc k) (option_map suc o) ≡ is_at k o
is_at-suc k None = refl
is_at-suc k (Some p) = by (suc k == suc p) (k == p) refl refl
  where
    by : (b c : Bool) → (suc k == suc p) ≡ b → (k == p) ≡ c → (suc k == suc p) ≡ (k == p)
    by true true left right = left ∙ sym right
    by false false left right = left ∙ sym right
    by true false left right = absurd (omega (arith, eqb-true (suc k) (suc p) left, eqb-false k p right))
    by false true left right = absurd (omega (arith, eqb-false (suc k) (suc p) left, eqb-true k p right))

absent_at : (y : List ℕ) (t : Attributes) (k : ℕ) → lookup y t ≡ None → k < length t → same_name y (attribute_at t k).0 ≡ false
absent_at y [] k none less = absurd (omega arith)
absent_at y (a ∷ t) zero none less = (none_at (same_name y a.0) a.1 (lookup y t) none).0
absent_at y (a ∷ t) (suc k) none less = absent_at y t k (none_at (same_name y a.0) a.1 (lookup y t) none).1 (omega arith)

same_name_at : (x : List ℕ) (t : Attributes) (k : ℕ) → AreDistinct t → k < length t → same_name x (attribute_at t k).0 ≡ is_at k (found (same_name x) (names t))
same_name_at x [] k distinct less = absurd (omega arith)
same_name_at x (a ∷ t) zero distinct less = by (same_name x a.0) (found (same_name x) (names t))
  where
    by : (b : Bool) (o : Option ℕ) → b ≡ is_at 0 (cond b (Some 0) (option_map suc o))
    by true o = refl
    by false o = sym (is_at-zero o)
same_name_at x (a ∷ t) (suc k) distinct less = by (same_name x a.0) refl (same_name_at x t k distinct.1 (omega arith))
  where
    other : same_name a.0 (attribute_at t k).0 ≡ false
    other = absent_at a.0 t k distinct.0 (omega arith)

    by : (b : Bool) → same_name x a.0 ≡ b → same_name x (attribute_at t k).0 ≡ is_at k (found (same_name x) (names t)) → same_name x (attribute_at t k).0 ≡ is_at (suc k) (cond b (Some 0) (option_map suc (found (same_name x) (names t))))
    by true is rest = same_name_equivalence.congr x a.0 (attribute_at t k).0 is ∙ other ∙ sym (is_at-first k)
    by false is rest = rest ∙ sym (is_at-suc k (found (same_name x) (names t)))

-- ---- the place of a name among the attributes at places
abbrev placed : Option ℕ → List ℕ → Option ℕ
placed None ks = None
placed (Some p) ks = found (λ k. k == p) ks

found-attributes_at : (x : List ℕ) (t : Attributes) (ks : List ℕ) → AreDistinct t → AreBelow (length t) ks → found (same_name x) (names (attributes_at t ks)) ≡ placed (found (same_name x) (names t)) ks
found-attributes_at x t [] distinct below = by (found (same_name x) (names t))
  where
    by : (o : Option ℕ) → None ≡ placed o []
    by None = refl
    by (Some p) = refl
found-attributes_at x t (k ∷ ks) distinct below =
    ap (λ b. cond b (Some 0) (option_map suc (found (same_name x) (names (attributes_at t ks))))) (same_name_at x t k distinct below.0)
    ∙ ap (λ o. cond (is_at k (found (same_name x) (names t))) (Some 0) (option_map suc o)) (found-attributes_at x t ks distinct below.1)
    ∙ by (found (same_name x) (names t))
  where
    by : (o : Option ℕ) → cond (is_at k o) (Some 0) (option_map suc (placed o ks)) ≡ placed o (k ∷ ks)
    by None = refl
    by (Some p) = refl

-- the place of a name, by its place in the table
pub place_of-attributes_at : (x : List ℕ) (t : Attributes) (ks : List ℕ) (p : ℕ) → IsAdOver t ks → place_of x t ≡ Some p → position (λ k. k == p) ks ≡ place_of x (attributes_at t ks)
place_of-attributes_at x t ks p shown at =
    position-found (λ k. k == p) ks
    ∙ ap (λ o. placed o ks) (sym at ∙ position-found (same_name x) (names t))
    ∙ sym (found-attributes_at x t ks shown.1.0 shown.0.0)
    ∙ sym (position-found (same_name x) (names (attributes_at t ks)))

pub place_of-attributes_at-absent : (x : List ℕ) (t : Attributes) (ks : List ℕ) → IsAdOver t ks → place_of x t ≡ None → place_of x (attributes_at t ks) ≡ None
place_of-attributes_at-absent x t ks shown none =
    position-found (same_name x) (names (attributes_at t ks))
    ∙ found-attributes_at x t ks shown.1.0 shown.0.0
    ∙ ap (λ o. placed o ks) (sym (position-found (same_name x) (names t)) ∙ none)

-- ---- what stands at a place of a name
pub lookup-place : (x : List ℕ) (ad : Attributes) (p : ℕ) → place_of x ad ≡ Some p → lookup x ad ≡ option_map (λ a. a.1) (slice_get ad p)
lookup-place x ad p at = lookup-found x ad ∙ ap (at_found ad) (sym (position-found (same_name x) (names ad)) ∙ at)

pub lookup-no_place : (x : List ℕ) (ad : Attributes) → place_of x ad ≡ None → lookup x ad ≡ None
lookup-no_place x ad none = lookup-found x ad ∙ ap (at_found ad) (sym (position-found (same_name x) (names ad)) ∙ none)

pub without-place : (x : List ℕ) (ad : Attributes) (p : ℕ) → place_of x ad ≡ Some p → without x ad ≡ remove ad p
without-place x ad p at = without-found x ad p (sym (position-found (same_name x) (names ad)) ∙ at)

pub without-no_place : (x : List ℕ) (ad : Attributes) → place_of x ad ≡ None → without x ad ≡ ad
without-no_place x ad none = without-absent x ad (sym (position-found (same_name x) (names ad)) ∙ none)

-- ---- the attribute at a place of an ad
pub slice_get-attributes_at : (t : Attributes) (ks : List ℕ) (i k : ℕ) → AreBelow (length t) ks → slice_get ks i ≡ Some k → slice_get t k ≡ slice_get (attributes_at t ks) i
slice_get-attributes_at t [] i k below at = absurd (none_some at)
slice_get-attributes_at t (j ∷ ks) zero k below at = ap (slice_get t) (sym (some_is at)) ∙ slice_get-get_or t j ([], items no_trees) below.0
slice_get-attributes_at t (j ∷ ks) (suc i) k below at = slice_get-attributes_at t ks i k below.1 at

pub slice_get-attributes_at-past : (t : Attributes) (ks : List ℕ) (i : ℕ) → slice_get ks i ≡ None → slice_get (attributes_at t ks) i ≡ None
slice_get-attributes_at-past t [] i at = refl
slice_get-attributes_at-past t (j ∷ ks) zero at = absurd (some_none at)
slice_get-attributes_at-past t (j ∷ ks) (suc i) at = slice_get-attributes_at-past t ks i at

-- ---- an attribute is removed
AreBelow-remove : (n : ℕ) (ks : List ℕ) (p : ℕ) → AreBelow n ks → AreBelow n (remove ks p)
AreBelow-remove n [] zero below = tt
AreBelow-remove n [] (suc p) below = tt
AreBelow-remove n (k ∷ ks) zero below = below.1
AreBelow-remove n (k ∷ ks) (suc p) below = (below.0, AreBelow-remove n ks p below.1)

attributes_at-remove : (t : Attributes) (ks : List ℕ) (p : ℕ) → attributes_at t (remove ks p) ≡ remove (attributes_at t ks) p
attributes_at-remove t [] zero = refl
attributes_at-remove t [] (suc p) = refl
attributes_at-remove t (k ∷ ks) zero = refl
attributes_at-remove t (k ∷ ks) (suc p) = ap (λ l. attribute_at t k ∷ l) (attributes_at-remove t ks p)

pub attributes_at-without : (x : List ℕ) (t : Attributes) (ks : List ℕ) (p : ℕ) → place_of x (attributes_at t ks) ≡ Some p → attributes_at t (remove ks p) ≡ without x (attributes_at t ks)
attributes_at-without x t ks p at = attributes_at-remove t ks p ∙ sym (without-place x (attributes_at t ks) p at)

place_of-less : (x : List ℕ) (t : Attributes) (ks : List ℕ) (p : ℕ) → place_of x (attributes_at t ks) ≡ Some p → p < length ks
place_of-less x t ks p at = omega (arith, (position-Some (same_name x) (names (attributes_at t ks)) p [] at).0, length-map (attributes_at t ks) (λ a. a.0), length-map ks (attribute_at t))

pub IsAdOver-remove : (x : List ℕ) (t : Attributes) (ks : List ℕ) (p : ℕ) → IsAdOver t ks → place_of x (attributes_at t ks) ≡ Some p → IsAdOver t (remove ks p)
IsAdOver-remove x t ks p shown at =
    let less : p < length ks = place_of-less x t ks p at in (
      (AreBelow-remove (length t) ks p shown.0.0, omega (arith, length-remove ks p less, shown.0.1), λ same. absurd (omega (arith, same, length-remove ks p less, shown.0.1))),
      shown.1,
      subst AreDistinct (sym (attributes_at-without x t ks p at)) (AreDistinct-without x (attributes_at t ks) shown.2),
    )

is_some-lookup : (x : List ℕ) (ad : Attributes) → is_some (found (same_name x) (names ad)) ≡ is_some (lookup x ad)
is_some-lookup x [] = refl
is_some-lookup x (a ∷ ad) = by (same_name x a.0) (found (same_name x) (names ad)) (is_some-lookup x ad)
  where
    by : (b : Bool) (o : Option ℕ) → is_some o ≡ is_some (lookup x ad) → is_some (cond b (Some 0) (option_map suc o)) ≡ is_some (cond b (Some a.1) (lookup x ad))
    by true o rest = refl
    by false o rest = is_some-option_map suc o ∙ rest

pub IsSome-lookup : (x : List ℕ) (ad : Attributes) (b : Bool) → b ≡ is_some (place_of x ad) → (IsTrue b → IsSome (lookup x ad)) × (IsSome (lookup x ad) → IsTrue b)
IsSome-lookup x ad b e = IsSome-from b (lookup x ad) (e ∙ ap is_some (position-found (same_name x) (names ad)) ∙ is_some-lookup x ad)

-- ---- all of a table is shown
AreBelow-range : (n a m : ℕ) → a + m ≤ n → AreBelow n (range_with_len a m)
AreBelow-range n a zero less = tt
AreBelow-range n a (suc m) less = (omega arith, AreBelow-range n (a + 1) m (omega arith))

attributes_at-range : (w t : Attributes) (n : ℕ) → ((k : ℕ) → k < length t → attribute_at w (n + k) ≡ attribute_at t k) → attributes_at w (range_with_len n (length t)) ≡ t
attributes_at-range w [] n at = refl
attributes_at-range w (a ∷ t) n at =
    let first : attribute_at w n ≡ a = ap (attribute_at w) (omega arith) ∙ at 0 (omega arith) in
    ap (λ b. b ∷ attributes_at w (range_with_len (n + 1) (length t))) first
    ∙ ap (λ l. a ∷ l) (attributes_at-range w t (n + 1) (λ k less. ap (attribute_at w) (omega arith) ∙ at (suc k) (omega (arith, less))))

pub attributes_at-all : (t : Attributes) → attributes_at t (range_with_len 0 (length t)) ≡ t
attributes_at-all t = attributes_at-range t t 0 (λ k less. ap (attribute_at t) (omega arith))

pub attributes_at-whole : (t : Attributes) (ks : List ℕ) → IsAdOver t ks → length ks ≡ length t → attributes_at t ks ≡ t
attributes_at-whole t ks shown same = ap (attributes_at t) (shown.0.2 same) ∙ attributes_at-all t

pub IsAdOver-all : (t : Attributes) (n : ℕ) (ks : List ℕ) → AreDistinct t → length t ≤ 256 → n ≡ length t → ks ≡ range_with_len 0 n → IsAdOver t ks
IsAdOver-all t n ks distinct within long is =
    subst (IsAdOver t) (sym (is ∙ ap (range_with_len 0) long)) (
      (AreBelow-range (length t) 0 (length t) (omega arith), omega (arith, length-range_with_len 0 (length t)), λ same. refl),
      (distinct, within),
      subst AreDistinct (sym (attributes_at-all t)) distinct,
    )

range-more : (a n : ℕ) → range_with_len a n ++ (a + n) ∷ [] ≡ range_with_len a (suc n)
range-more a zero = ap (λ k. k ∷ []) (omega arith)
range-more a (suc n) = ap (λ l. a ∷ l) (ap (λ k. range_with_len (a + 1) n ++ k ∷ []) (omega arith) ∙ range-more (a + 1) n)

pub range_push : (n : ℕ) → range_with_len 0 n ++ n ∷ [] ≡ range_with_len 0 (n + 1)
range_push n =
    let same : n ≡ 0 + n = omega arith in
    let more : suc n ≡ n + 1 = omega arith in
    ap (λ k. range_with_len 0 n ++ k ∷ []) same ∙ range-more 0 n ∙ ap (range_with_len 0) more

-- ---- an attribute is set in a table of which all is shown
pub length-with_attribute-ge : (x : List ℕ) (e : Tree) (ad : Attributes) → length ad ≤ length (with_attribute x e ad)
length-with_attribute-ge x e [] = omega arith
length-with_attribute-ge x e (a ∷ ad) = by (same_name x a.0) (length-with_attribute-ge x e ad)
  where
    by : (b : Bool) → length ad ≤ length (with_attribute x e ad) → length (a ∷ ad) ≤ length (cond b ((a.0, e) ∷ ad) (a ∷ with_attribute x e ad))
    by true rest = omega arith
    by false rest = omega arith

-- what a fresh table has after so many attributes of an ad, and one more
absent_got : (y : List ℕ) (t : Attributes) (k : ℕ) (a : List ℕ × Tree) → lookup y t ≡ None → slice_get t k ≡ Some a → same_name y a.0 ≡ false
absent_got y [] k a none at = absurd (none_some at)
absent_got y (b ∷ t) zero a none at = ap (λ c. same_name y c.0) (sym (some_is at)) ∙ (none_at (same_name y b.0) b.1 (lookup y t) none).0
absent_got y (b ∷ t) (suc k) a none at = absent_got y t k a (none_at (same_name y b.0) b.1 (lookup y t) none).1 at

take-with_attribute : (ad : Attributes) (k : ℕ) (a : List ℕ × Tree) → AreDistinct ad → slice_get ad k ≡ Some a → with_attribute a.0 a.1 (take k ad) ≡ take (suc k) ad
take-with_attribute [] k a distinct at = absurd (none_some at)
take-with_attribute (b ∷ ad) zero a distinct at = ap (λ c. c ∷ []) (sym (some_is at))
take-with_attribute (b ∷ ad) (suc k) a distinct at =
    ap (λ c. cond c ((b.0, a.1) ∷ take k ad) (b ∷ with_attribute a.0 a.1 (take k ad))) (other_way b.0 a.0 (absent_got b.0 ad k a distinct.0 at))
    ∙ ap (λ l. b ∷ l) (take-with_attribute ad k a distinct.1 at)

pub built_more : (ad t : Attributes) (k : ℕ) (a : List ℕ × Tree) → AreDistinct ad → t ≡ take k ad → slice_get ad k ≡ Some a → with_attribute a.0 a.1 t ≡ take (k + 1) ad
built_more ad t k a distinct is at =
    let more : suc k ≡ k + 1 = omega arith in
    ap (with_attribute a.0 a.1) is ∙ take-with_attribute ad k a distinct at ∙ ap (λ n. take n ad) more

-- an attribute is set in a table of which all is shown: what is then shown, all again
pub IsAdOver-set : (x : List ℕ) (e : Tree) (t u : Attributes) (ks ls : List ℕ) → IsAdOver t ks → ((lookup x t ≡ None) × (length t ≡ 256) → ⊥) → u ≡ with_attribute x e t → AreAll u ls → IsAdOver u ls
IsAdOver-set x e t u ks ls shown room is places =
    IsAdOver-all u (length u) ls (subst AreDistinct (sym is) (AreDistinct-with_attribute x e t shown.1.0)) (omega (arith, ap length is, length-with_attribute-within x e t room shown.1.1)) refl places

pub attributes_at-set : (x : List ℕ) (e : Tree) (t u : Attributes) (ks ls : List ℕ) → IsAdOver t ks → length ks ≡ length t → u ≡ with_attribute x e t → AreAll u ls → attributes_at u ls ≡ with_attribute x e (attributes_at t ks)
attributes_at-set x e t u ks ls shown same is places =
    ap (attributes_at u) places ∙ attributes_at-all u ∙ is ∙ ap (with_attribute x e) (sym (attributes_at-whole t ks shown same))

pub places-kept : (x : List ℕ) (e : Tree) (t u : Attributes) (ks : List ℕ) → IsAdOver t ks → length ks ≡ length t → u ≡ with_attribute x e t → length u ≤ length ks → AreAll u ks
places-kept x e t u ks shown same is less =
    let long : length t ≡ length u = omega (arith, same, less, ap length is, length-with_attribute-ge x e t) in
    shown.0.2 same ∙ ap (range_with_len 0) long

pub places-grown : (x : List ℕ) (e : Tree) (t u : Attributes) (ks : List ℕ) (n : ℕ) → IsAdOver t ks → length ks ≡ length t → u ≡ with_attribute x e t → n ≡ length ks → n < length u → ks ++ n ∷ [] ≡ range_with_len 0 (length u)
places-grown x e t u ks n shown same is at less =
    let old : length t ≡ n = omega (arith, same, at) in
    let long : n + 1 ≡ length u = omega (arith, old, less, ap length is, length-with_attribute-le x e t) in
    ap (λ l. l ++ n ∷ []) (shown.0.2 same ∙ ap (range_with_len 0) old) ∙ range_push n ∙ ap (range_with_len 0) long

-- a place before the end has something
pub not_past : (ad : Attributes) (k : ℕ) → k < length ad → None ≡ slice_get ad k → ⊥
not_past ad k less none = none_some (none ∙ slice_get-get_or ad k ([], items no_trees) less)

pub IsAdOver-same : (t u : Attributes) (ks ls : List ℕ) → u ≡ t → ls ≡ ks → IsAdOver t ks → IsAdOver u ls
IsAdOver-same t u ks ls p q ok = subst (λ v. IsAdOver v ls) (sym p) (subst (IsAdOver t) (sym q) ok)
