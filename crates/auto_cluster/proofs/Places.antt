-- Where a name stands in two ads in which it has the same expression.
use Rattle.std.proofs.Common.{◌≡◌, ℕ, suc, ◌+◌, ◌==◌, Bool, true, false, cond, List, [], ◌∷◌, Option, Some, None, get_or, refl, ap, sym, ◌∙◌, subst, zero-add, arith}
use Rattle.std.specs.Prelude.{slice_get}
use Rattle.std.specs.List.{position_from}
use Rattle.std.proofs.lemmas.Iterator.Adapters.{position_from-zero}
use Rattle.std.proofs.lemmas.Bool.{eqb-true, eq-eqb, false_from_ne_true, true≢false}
use Rattle.std.proofs.lemmas.List.Quantifiers.{position-Some}
use Rattle.ad_value.specs.Names.{same_name}
use Rattle.ad_tree.specs.Tree.{Tree}
use Rattle.ad_tree.specs.Ad.{Attributes, lookup, names, place_of}
use Rattle.ad_eval.specs.Mean.{at_place, placed_attribute, found_in_ad}
use Rattle.auto_cluster.proofs.Members.{name_sym, name_trans, name_congr, some_is}

-- a place and an expression are those of one attribute
abbrev IsPlaced : Attributes → Option ℕ → Option Tree → Type 0
IsPlaced ad None None = Unit {0}
IsPlaced ad None (Some e) = ⊥
IsPlaced ad (Some i) None = ⊥
IsPlaced ad (Some i) (Some e) = (n : List ℕ) × (slice_get ad i ≡ Some (n, e))

placed_from : (x : List ℕ) (whole : Attributes) (i : ℕ) (ad : Attributes) → ((k : ℕ) → slice_get whole (i + k) ≡ slice_get ad k) → IsPlaced whole (position_from (same_name x) i (names ad)) (lookup x ad)
placed_from x whole i [] h = tt
placed_from x whole i (a ∷ ad) h = by (same_name x a.0) (placed_from x whole (i + 1) ad (λ k. ap (slice_get whole) (next k) ∙ h (suc k)))
  where
    next : (k : ℕ) → i + 1 + k ≡ i + suc k
    next k = omega arith

    first : i ≡ i + 0
    first = omega arith

    here : slice_get whole i ≡ Some a
    here = ap (slice_get whole) first ∙ h 0

    by : (b : Bool) → IsPlaced whole (position_from (same_name x) (i + 1) (names ad)) (lookup x ad) → IsPlaced whole (cond b (Some i) (position_from (same_name x) (i + 1) (names ad))) (cond b (Some a.1) (lookup x ad))
    by true more = (a.0, here)
    by false more = more

placed : (x : List ℕ) (ad : Attributes) → IsPlaced ad (place_of x ad) (lookup x ad)
placed x ad = subst (λ o. IsPlaced ad o (lookup x ad)) (sym (position_from-zero (same_name x) (names ad))) (placed_from x ad 0 ad (λ k. ap (slice_get ad) (zero-add k)))

-- a name is in neither of two ads, or has an expression in both
pub data Both (a b : Attributes) (x : List ℕ) : Type 0 where
  neither : found_in_ad x a ≡ None → found_in_ad x b ≡ None → Both a b x
  both : (e : Tree) (i j : ℕ) → place_of x a ≡ Some i → place_of x b ≡ Some j → found_in_ad x a ≡ Some (i, e) → found_in_ad x b ≡ Some (j, e) → lookup x a ≡ Some e → Both a b x

both_by : (a b : Attributes) (x : List ℕ) (o p : Option ℕ) (r : Option Tree) → place_of x a ≡ o → place_of x b ≡ p → lookup x a ≡ r → IsPlaced a o r → IsPlaced b p r → Both a b x
both_by a b x None None None eo ep er h k = neither (ap (at_place a) eo) (ap (at_place b) ep)
both_by a b x None None (Some e) eo ep er h k = absurd h
both_by a b x None (Some j) None eo ep er h k = absurd k
both_by a b x None (Some j) (Some e) eo ep er h k = absurd h
both_by a b x (Some i) None None eo ep er h k = absurd h
both_by a b x (Some i) None (Some e) eo ep er h k = absurd k
both_by a b x (Some i) (Some j) None eo ep er h k = absurd h
both_by a b x (Some i) (Some j) (Some e) eo ep er h k =
    both e i j eo ep (ap (at_place a) eo ∙ ap (placed_attribute i) h.1) (ap (at_place b) ep ∙ ap (placed_attribute j) k.1) er

pub both_found : (a b : Attributes) (x : List ℕ) → lookup x a ≡ lookup x b → Both a b x
both_found a b x same = both_by a b x (place_of x a) (place_of x b) (lookup x a) refl refl refl (placed x a) (subst (IsPlaced b (place_of x b)) (sym same) (placed x b))

-- ---- a place is as good as a name

named : (ad : Attributes) (x : List ℕ) (i : ℕ) → place_of x ad ≡ Some i → same_name x (get_or (names ad) i []) ≡ true
named ad x i h = (position-Some (same_name x) (names ad) i [] h).1

same_position : (x y : List ℕ) (ns : List (List ℕ)) → same_name x y ≡ true → (i : ℕ) → position_from (same_name x) i ns ≡ position_from (same_name y) i ns
same_position x y [] e i = refl
same_position x y (n ∷ ns) e i = λ k. cond (name_congr x y n e k) (Some i) (same_position x y ns e (i + 1) k)

same_place : (ad : Attributes) (x y : List ℕ) → same_name x y ≡ true → place_of x ad ≡ place_of y ad
same_place ad x y e = position_from-zero (same_name x) (names ad) ∙ same_position x y (names ad) e 0 ∙ sym (position_from-zero (same_name y) (names ad))

pub place_is_name : (ad : Attributes) (x y : List ℕ) (i k : ℕ) → place_of x ad ≡ Some i → place_of y ad ≡ Some k → (k == i) ≡ same_name x y
place_is_name ad x y i k h g = by (same_name x y) refl
  where
    names_same : k ≡ i → same_name x y ≡ true
    names_same e = name_trans x (get_or (names ad) i []) y (named ad x i h) (name_sym (get_or (names ad) i []) y ∙ named ad y i (g ∙ ap Some e))

    by : (b : Bool) → same_name x y ≡ b → (k == i) ≡ b
    by true e = eq-eqb k i (some_is (sym g ∙ sym (same_place ad x y e) ∙ h))
    by false e = false_from_ne_true (k == i) (λ t. true≢false (sym (names_same (eqb-true k i t)) ∙ e))
