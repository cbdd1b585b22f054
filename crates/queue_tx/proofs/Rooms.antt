-- That there is room for what the pool sets: each of its names is in an ad once at most.
use Rattle.std.proofs.Common.{◌≡◌, ℕ, ◌+◌, ◌<◌, ◌≤◌, Bool, true, false, not, ◌||◌, ◌&&◌, cond, List, [], ◌∷◌, length, Option, Some, None, is_some, refl, suc, ap, sym, ◌∙◌, arith, lit≤}
use Rattle.std.specs.Prelude.{count_by, nat_eq, nat_le}
use Rattle.std.specs.List.{list_any}
use Rattle.std.proofs.lemmas.List.Recursion.{is_count_by}
use Rattle.std.proofs.lemmas.Bool.{ne_eqb}
use Rattle.ad_value.specs.Names.{same_name}
use Rattle.ad_tree.specs.Tree.{Tree}
use Rattle.ad_tree.specs.Ad.{Attributes, lookup, AreDistinct, IsAd}
use Rattle.ad_tree.specs.NameLaws.{same_name_equivalence}
use Rattle.ad_parse.specs.AdText.{is_full_for}
use Rattle.queue_tx.specs.declared.key.Key.{Key}
use Rattle.queue_tx.specs.declared.key.Key.TheVariants.{Header, Proc}
use Rattle.queue_tx.specs.Room.{kept_names, most_own, is_kept_name, own_count, is_full_of_own}
use Rattle.queue_tx.specs.Laws.{RoomForThePool}
use Rattle.queue_tx.proofs.RequestLemmas.{lookup_alike}

-- ---- how many pass, from the front

abbrev pub tally : {X : Type 0} → (X → Bool) → List X → ℕ
tally p [] = 0
tally p (x ∷ xs) = cond (p x) (1 + tally p xs) (tally p xs)

pub tally_is : {X : Type 0} (p : X → Bool) (xs : List X) → tally p xs ≡ count_by p xs
tally_is p xs = is_count_by (tally p) p refl (λ x xs. refl) xs

tally_both : {X : Type 0} (p : X → Bool) (xs : List X) → tally (λ x. not (p x)) xs + tally p xs ≡ length xs
tally_both p [] = refl
tally_both p (x ∷ xs) = by (p x) (tally_both p xs)
  where
    by : (b : Bool) → tally (λ x. not (p x)) xs + tally p xs ≡ length xs → cond (not b) (1 + tally (λ x. not (p x)) xs) (tally (λ x. not (p x)) xs) + cond b (1 + tally p xs) (tally p xs) ≡ suc (length xs)
    by true h = omega arith
    by false h = omega arith

tally_either : {X : Type 0} (p q : X → Bool) (xs : List X) → tally (λ x. p x || q x) xs ≤ tally p xs + tally q xs
tally_either p q [] = omega arith
tally_either p q (x ∷ xs) = by (p x) (q x) (tally_either p q xs)
  where
    by : (b c : Bool) → tally (λ x. p x || q x) xs ≤ tally p xs + tally q xs
        → cond (b || c) (1 + tally (λ x. p x || q x) xs) (tally (λ x. p x || q x) xs) ≤ cond b (1 + tally p xs) (tally p xs) + cond c (1 + tally q xs) (tally q xs)
    by true true h = omega arith
    by true false h = omega arith
    by false true h = omega arith
    by false false h = omega arith

tally_none : {X : Type 0} (xs : List X) → tally (λ (x : X). false) xs ≡ 0
tally_none [] = refl
tally_none (x ∷ xs) = tally_none xs

-- ---- one name

abbrev times : List ℕ → Attributes → ℕ
times m ad = tally (λ a. same_name a.0 m) ad

absent : (m : List ℕ) (ad : Attributes) → lookup m ad ≡ None → times m ad ≡ 0
absent m [] h = refl
absent m (a ∷ ad) h = by (same_name m a.0) refl h (absent m ad)
  where
    by : (b : Bool) → same_name m a.0 ≡ b → cond b (Some a.1) (lookup m ad) ≡ None → (lookup m ad ≡ None → times m ad ≡ 0) → cond (same_name a.0 m) (1 + times m ad) (times m ad) ≡ 0
    by true e h rest = cc
    by false e h rest = ap (λ t. cond t (1 + times m ad) (times m ad)) (same_name_equivalence.symm a.0 m ∙ e) ∙ rest h

once : (m : List ℕ) (ad : Attributes) → AreDistinct ad → times m ad ≤ 1
once m [] d = omega arith
once m (a ∷ ad) d = by (same_name a.0 m) refl (once m ad d.1)
  where
    by : (b : Bool) → same_name a.0 m ≡ b → times m ad ≤ 1 → cond b (1 + times m ad) (times m ad) ≤ 1
    by true e rest = let gone = absent m ad (sym (lookup_alike a.0 m e ad) ∙ d.0) in omega arith
    by false e rest = rest

-- ---- some names

abbrev spread : List (List ℕ) → Attributes → ℕ
spread [] ad = 0
spread (m ∷ ms) ad = times m ad + spread ms ad

among : (ms : List (List ℕ)) (ad : Attributes) → tally (λ a. list_any (same_name a.0) ms) ad ≤ spread ms ad
among [] ad = let none = tally_none ad in omega arith
among (m ∷ ms) ad =
    let either = tally_either (λ (a : List ℕ × Tree). same_name a.0 m) (λ (a : List ℕ × Tree). list_any (same_name a.0) ms) ad in
    let rest = among ms ad in
    omega arith

each_once : (ms : List (List ℕ)) (ad : Attributes) → AreDistinct ad → spread ms ad ≤ length ms
each_once [] ad d = omega arith
each_once (m ∷ ms) ad d = let one = once m ad d in let rest = each_once ms ad d in omega arith

one_less : (name : List ℕ) (ms : List (List ℕ)) (ad : Attributes) → AreDistinct ad → list_any (same_name name) ms ≡ true → lookup name ad ≡ None → spread ms ad < length ms
one_less name [] ad d h none = cc
one_less name (m ∷ ms) ad d h none = by (same_name name m) refl h (λ g. one_less name ms ad d g none)
  where
    by : (b : Bool) → same_name name m ≡ b → (b || list_any (same_name name) ms) ≡ true → (list_any (same_name name) ms ≡ true → spread ms ad < length ms) → times m ad + spread ms ad < suc (length ms)
    by true e h rest =
        let gone = absent m ad (sym (lookup_alike name m e ad) ∙ none) in
        let others = each_once ms ad d in
        omega arith
    by false e h rest = let one = once m ad d in let less = rest h in omega arith

-- ---- the pool's names

few : (key : Key) → most_own key + length (kept_names key) ≤ 256
few Header = lit≤ tt
few (Proc job) = lit≤ tt

shorter : (key : Key) (ad : Attributes) (name : List ℕ) → IsAd ad → own_count key ad ≤ most_own key → is_kept_name key name ≡ true → lookup name ad ≡ None → length ad < 256
shorter key ad name is own kept none =
    let both = tally_both (λ (a : List ℕ × Tree). is_kept_name key a.0) ad in
    let its_own : tally (λ (a : List ℕ × Tree). not (is_kept_name key a.0)) ad ≡ own_count key ad = tally_is (λ (a : List ℕ × Tree). not (is_kept_name key a.0)) ad in
    let spread_is = among (kept_names key) ad in
    let less = one_less name (kept_names key) ad is.0 kept none in
    let all = few key in
    omega arith

not_256 : (n : ℕ) → n < 256 → nat_eq n 256 ≡ false
not_256 n l = ne_eqb n 256 (λ e. omega (arith, e, l))

pub room_for_the_pool : RoomForThePool
room_for_the_pool key ad name is own kept = λ i. full i || of_own i
  where
    by : (o : Option Tree) → lookup name ad ≡ o → (not (is_some o) && nat_eq (length ad) 256) ≡ false
    by (Some e) h = refl
    by None h = not_256 (length ad) (shorter key ad name is own kept h)

    full : is_full_for name ad ≡ false
    full = by (lookup name ad) refl

    second : (b c : Bool) → (b && (false && c)) ≡ false
    second true c = refl
    second false c = refl

    of_own : is_full_of_own key name ad ≡ false
    of_own =
        ap (λ k. not (is_some (lookup name ad)) && (not k && nat_le (most_own key) (own_count key ad))) kept
        ∙ second (not (is_some (lookup name ad))) (nat_le (most_own key) (own_count key ad))
