-- An ad without the attributes of some names.
use Rattle.std.proofs.Common.{◌≡◌, ℕ, Bool, true, false, not, cond, ◌||◌, ◌&&◌, List, [], ◌∷◌, filter, Some, None, refl, sym, ◌∙◌, ap}
use Rattle.std.specs.List.{list_any}
use Rattle.ad_value.specs.Names.{same_name}
use Rattle.ad_value.specs.declared.names.pool.TheConstants.{RUN_CLAIM, RUN_NUMBER, LEASE_UNTIL}
use Rattle.ad_value.specs.Groups.{run_names}
use Rattle.ad_tree.specs.Ad.{Attributes, lookup, without, AreDistinct}
use Rattle.ad_tree.specs.NameLaws.{same_name_equivalence}
use Rattle.ad_tree.specs.Tree.{Tree}
use Rattle.ad_tree.proofs.AdLemmas.{AreDistinct-without}
use Rattle.pool_mail.specs.Ads.{request_ad}

abbrev Named : Type 0
Named = List ℕ × Tree

-- ---- one name is taken out
-- names that are the same find the same
lookup_same : (x y : List ℕ) (ad : Attributes) → same_name x y ≡ true → lookup x ad ≡ lookup y ad
lookup_same x y [] same = refl
lookup_same x y (a ∷ ad) same = λ i. cond (same_name_equivalence.congr x y a.0 same i) (Some a.1) (lookup_same x y ad same i)

abbrev is_other : List ℕ → Named → Bool
is_other x a = not (same_name a.0 x)

-- where a name isn't found, no attribute has it
absent-filter : (x : List ℕ) (ad : Attributes) → lookup x ad ≡ None → filter (is_other x) ad ≡ ad
absent-filter x [] absent = refl
absent-filter x (a ∷ ad) absent = by (same_name x a.0) refl absent (absent-filter x ad)
  where
    by : (b : Bool) → same_name x a.0 ≡ b → cond b (Some a.1) (lookup x ad) ≡ None → (lookup x ad ≡ None → filter (is_other x) ad ≡ ad) → cond (is_other x a) (a ∷ filter (is_other x) ad) (filter (is_other x) ad) ≡ a ∷ ad
    by true is none rest = cc
    by false is none rest =
        ap (λ b. cond (not b) (a ∷ filter (is_other x) ad) (filter (is_other x) ad)) (same_name_equivalence.symm a.0 x ∙ is)
        ∙ ap (λ l. a ∷ l) (rest none)

without-filter : (x : List ℕ) (ad : Attributes) → AreDistinct ad → without x ad ≡ filter (is_other x) ad
without-filter x [] distinct = refl
without-filter x (a ∷ ad) distinct = by (same_name x a.0) refl (without-filter x ad distinct.1)
  where
    by : (b : Bool) → same_name x a.0 ≡ b → without x ad ≡ filter (is_other x) ad → cond b ad (a ∷ without x ad) ≡ cond (is_other x a) (a ∷ filter (is_other x) ad) (filter (is_other x) ad)
    by true is rest =
        sym (absent-filter x ad (lookup_same x a.0 ad is ∙ distinct.0))
        ∙ sym (ap (λ b. cond (not b) (a ∷ filter (is_other x) ad) (filter (is_other x) ad)) (same_name_equivalence.symm a.0 x ∙ is))
    by false is rest =
        ap (λ l. a ∷ l) rest
        ∙ sym (ap (λ b. cond (not b) (a ∷ filter (is_other x) ad) (filter (is_other x) ad)) (same_name_equivalence.symm a.0 x ∙ is))

-- ---- three names are
filter_twice : {A : Type 0} (p q : A → Bool) (xs : List A) → filter q (filter p xs) ≡ filter (λ x. p x && q x) xs
filter_twice p q [] = refl
filter_twice p q (x ∷ xs) = by (p x) (filter_twice p q xs)
  where
    by : (b : Bool) → filter q (filter p xs) ≡ filter (λ x. p x && q x) xs
        → filter q (cond b (x ∷ filter p xs) (filter p xs)) ≡ cond (b && q x) (x ∷ filter (λ x. p x && q x) xs) (filter (λ x. p x && q x) xs)
    by true rest = ap (λ l. cond (q x) (x ∷ l) l) rest
    by false rest = rest

filter_alike : {A : Type 0} (p q : A → Bool) (xs : List A) → ((x : A) → p x ≡ q x) → filter p xs ≡ filter q xs
filter_alike p q xs alike = λ i. filter (λ x. alike x i) xs

none_of_three : (a b c : Bool) → ((not a && not b) && not c) ≡ not (a || (b || (c || false)))
none_of_three true b c = refl
none_of_three false true c = refl
none_of_three false false true = refl
none_of_three false false false = refl

three_filters : {A : Type 0} (p q r : A → Bool) (xs : List A)
    → filter (λ x. not (r x)) (filter (λ x. not (q x)) (filter (λ x. not (p x)) xs)) ≡ filter (λ x. not (p x || (q x || (r x || false)))) xs
three_filters p q r xs =
    ap (filter (λ x. not (r x))) (filter_twice (λ x. not (p x)) (λ x. not (q x)) xs)
    ∙ filter_twice (λ x. not (p x) && not (q x)) (λ x. not (r x)) xs
    ∙ filter_alike (λ x. (not (p x) && not (q x)) && not (r x)) (λ x. not (p x || (q x || (r x || false)))) xs (λ x. none_of_three (p x) (q x) (r x))

pub without_run_names : (ad : Attributes) → AreDistinct ad → without LEASE_UNTIL.now (without RUN_NUMBER.now (without RUN_CLAIM.now ad)) ≡ request_ad ad
without_run_names ad distinct =
    let once = AreDistinct-without RUN_CLAIM.now ad distinct in
    let twice = AreDistinct-without RUN_NUMBER.now (without RUN_CLAIM.now ad) once in
    without-filter LEASE_UNTIL.now (without RUN_NUMBER.now (without RUN_CLAIM.now ad)) twice
    ∙ ap (filter (is_other LEASE_UNTIL.now)) (without-filter RUN_NUMBER.now (without RUN_CLAIM.now ad) once)
    ∙ ap (λ l. filter (is_other LEASE_UNTIL.now) (filter (is_other RUN_NUMBER.now) l)) (without-filter RUN_CLAIM.now ad distinct)
    ∙ three_filters (λ a. same_name a.0 RUN_CLAIM.now) (λ a. same_name a.0 RUN_NUMBER.now) (λ a. same_name a.0 LEASE_UNTIL.now) ad

-- ---- what is found in what is left
abbrev is_run : List ℕ → Bool
is_run name = list_any (same_name name) run_names

is_run_same : (x y : List ℕ) → same_name x y ≡ true → is_run x ≡ is_run y
is_run_same x y same = λ i. list_any (λ z. same_name_equivalence.congr x y z same i) run_names

-- names of which one is a run's and one isn't are not the same
apart : (x y : List ℕ) → is_run x ≡ true → is_run y ≡ false → same_name x y ≡ false
apart x y one other = by (same_name x y) refl
  where
    by : (b : Bool) → same_name x y ≡ b → b ≡ false
    by true same = sym (sym other ∙ sym (is_run_same x y same) ∙ one)
    by false same = refl

pub lacks_run_names : (ad : Attributes) (name : List ℕ) → is_run name ≡ true → lookup name (request_ad ad) ≡ None
lacks_run_names [] name one = refl
lacks_run_names (a ∷ ad) name one = by (is_run a.0) refl (lacks_run_names ad name one)
  where
    by : (b : Bool) → is_run a.0 ≡ b → lookup name (request_ad ad) ≡ None → lookup name (cond (not b) (a ∷ request_ad ad) (request_ad ad)) ≡ None
    by true is rest = rest
    by false is rest = ap (λ b. cond b (Some a.1) (lookup name (request_ad ad))) (apart name a.0 one is) ∙ rest

pub keeps_the_rest : (ad : Attributes) (name : List ℕ) → is_run name ≡ false → lookup name (request_ad ad) ≡ lookup name ad
keeps_the_rest [] name other = refl
keeps_the_rest (a ∷ ad) name other = by (is_run a.0) refl (keeps_the_rest ad name other)
  where
    by : (b : Bool) → is_run a.0 ≡ b → lookup name (request_ad ad) ≡ lookup name ad → lookup name (cond (not b) (a ∷ request_ad ad) (request_ad ad)) ≡ cond (same_name name a.0) (Some a.1) (lookup name ad)
    by true is rest = rest ∙ sym (ap (λ b. cond b (Some a.1) (lookup name ad)) (same_name_equivalence.symm name a.0 ∙ apart a.0 name is other))
    by false is rest = ap (λ o. cond (same_name name a.0) (Some a.1) o) rest
