-- An ad without the attributes of some names.
use Rattle.std.proofs.Common.{◌≡◌, ℕ, Bool, true, false, not, cond, ◌||◌, List, [], ◌∷◌, filter, Some, None, refl, sym, ◌∙◌, ap}
use Rattle.std.specs.List.{list_any}
use Rattle.ad_value.specs.Names.{same_name}
use Rattle.ad_value.specs.Groups.{pool_names}
use Rattle.ad_tree.specs.Ad.{Attributes, lookup, without, AreDistinct}
use Rattle.ad_tree.specs.NameLaws.{same_name_equivalence}
use Rattle.ad_tree.specs.Tree.{Tree}
use Rattle.ad_tree.proofs.AdLemmas.{AreDistinct-without}
use Rattle.pool_view.specs.Ads.{core_of}

abbrev Named : Type 0
Named = List ℕ × Tree

-- ---- one name is taken out
lookup_same : (x y : List ℕ) (ad : Attributes) → same_name x y ≡ true → lookup x ad ≡ lookup y ad
lookup_same x y [] same = refl
lookup_same x y (a ∷ ad) same = λ i. cond (same_name_equivalence.congr x y a.0 same i) (Some a.1) (lookup_same x y ad same i)

abbrev is_other : List ℕ → Named → Bool
is_other x a = not (same_name a.0 x)

absent_filter : (x : List ℕ) (ad : Attributes) → lookup x ad ≡ None → filter (is_other x) ad ≡ ad
absent_filter x [] absent = refl
absent_filter x (a ∷ ad) absent = by (same_name x a.0) refl absent (absent_filter x ad)
  where
    by : (b : Bool) → same_name x a.0 ≡ b → cond b (Some a.1) (lookup x ad) ≡ None → (lookup x ad ≡ None → filter (is_other x) ad ≡ ad) → cond (is_other x a) (a ∷ filter (is_other x) ad) (filter (is_other x) ad) ≡ a ∷ ad
    by true is none rest = cc
    by false is none rest =
        ap (λ b. cond (not b) (a ∷ filter (is_other x) ad) (filter (is_other x) ad)) (same_name_equivalence.symm a.0 x ∙ is)
        ∙ ap (λ l. a ∷ l) (rest none)

without_filter : (x : List ℕ) (ad : Attributes) → AreDistinct ad → without x ad ≡ filter (is_other x) ad
without_filter x [] distinct = refl
without_filter x (a ∷ ad) distinct = by (same_name x a.0) refl (without_filter x ad distinct.1)
  where
    by : (b : Bool) → same_name x a.0 ≡ b → without x ad ≡ filter (is_other x) ad → cond b ad (a ∷ without x ad) ≡ cond (is_other x a) (a ∷ filter (is_other x) ad) (filter (is_other x) ad)
    by true is rest =
        sym (absent_filter x ad (lookup_same x a.0 ad is ∙ distinct.0))
        ∙ sym (ap (λ b. cond (not b) (a ∷ filter (is_other x) ad) (filter (is_other x) ad)) (same_name_equivalence.symm a.0 x ∙ is))
    by false is rest =
        ap (λ l. a ∷ l) rest
        ∙ sym (ap (λ b. cond (not b) (a ∷ filter (is_other x) ad) (filter (is_other x) ad)) (same_name_equivalence.symm a.0 x ∙ is))

-- ---- several are, one after the other
abbrev pub without_all : List (List ℕ) → Attributes → Attributes
without_all [] ad = ad
without_all (x ∷ xs) ad = without_all xs (without x ad)

abbrev lacks : List (List ℕ) → Named → Bool
lacks names a = not (list_any (same_name a.0) names)

filter_twice : (x : List ℕ) (names : List (List ℕ)) (ad : Attributes) → filter (lacks names) (filter (is_other x) ad) ≡ filter (lacks (x ∷ names)) ad
filter_twice x names [] = refl
filter_twice x names (a ∷ ad) = by (same_name a.0 x) (filter_twice x names ad)
  where
    by : (b : Bool) → filter (lacks names) (filter (is_other x) ad) ≡ filter (lacks (x ∷ names)) ad
        → filter (lacks names) (cond (not b) (a ∷ filter (is_other x) ad) (filter (is_other x) ad))
        ≡ cond (not (b || list_any (same_name a.0) names)) (a ∷ filter (lacks (x ∷ names)) ad) (filter (lacks (x ∷ names)) ad)
    by true rest = rest
    by false rest = ap (λ l. cond (lacks names a) (a ∷ l) l) rest

none_taken : (ad : Attributes) → filter (lacks []) ad ≡ ad
none_taken [] = refl
none_taken (a ∷ ad) = ap (λ l. a ∷ l) (none_taken ad)

without_names : (names : List (List ℕ)) (ad : Attributes) → AreDistinct ad → without_all names ad ≡ filter (lacks names) ad
without_names [] ad distinct = sym (none_taken ad)
without_names (x ∷ names) ad distinct =
    without_names names (without x ad) (AreDistinct-without x ad distinct)
    ∙ ap (filter (lacks names)) (without_filter x ad distinct)
    ∙ filter_twice x names ad

pub without_pool_names : (ad : Attributes) → AreDistinct ad → without_all pool_names ad ≡ core_of ad
without_pool_names ad distinct = without_names pool_names ad distinct
