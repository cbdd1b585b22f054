-- Orders have one order by time and then by line.
use Rattle.std.proofs.Common.{◌≡◌, ℕ, ◌≤◌, Bool, true, false, cond, suc, List, [], ◌∷◌, refl, sym, ap, ◌∙◌, subst, arith, filter}
use Rattle.std.specs.List.{All}
use Rattle.std.specs.List.Sorted.{ties, IsNonDecreasingBy}
use Rattle.std.specs.Ordering.{nat_cmp, is_lt}
use Rattle.std.proofs.lemmas.Bool.Decides.{nat_tests}
use Rattle.std.proofs.lemmas.List.Elements.{All-filter}
use Rattle.std.proofs.lemmas.List.Sorted.{IsNonDecreasingBy-from_sort}
use Rattle.claim_id.specs.declared.order.Wish.{Wish}
use Rattle.script_plan.specs.Scripts.{IsByTime}

abbrev tie : ℕ → ℕ → Bool
tie m n = ties (λ x y. is_lt (nat_cmp x y)) m n

tie_self : (m : ℕ) → tie m m ≡ true
tie_self m = grind (arith, nat_tests)

tie_equal : (m n : ℕ) → m ≡ n → tie m n ≡ true
tie_equal m n same = ap (tie m) (sym same) ∙ tie_self m

module _ {X : Type 0} (at : X → ℕ) where
  abbrev with_time : X → X → Bool
  with_time x y = tie (at x) (at y)

  -- what heads a filter of a rising list is not before the list's head
  head_least : (x y : X) (xs rest : List X) (p : X → Bool) → All (λ z. at x ≤ at z) (x ∷ xs) → filter p (x ∷ xs) ≡ y ∷ rest → at x ≤ at y
  head_least x y xs rest p low is = subst (λ (zs : List X). All (λ z. at x ≤ at z) zs) is (All-filter p (λ z. at x ≤ at z) (x ∷ xs) low) 0 y (omega arith)

  low : (x : X) (xs : List X) → IsNonDecreasingBy at (x ∷ xs) → All (λ z. at x ≤ at z) (x ∷ xs)
  low x xs rises = λ k d inside. rises 0 k d (omega arith) inside

  tail : (x : X) (xs : List X) → IsNonDecreasingBy at (x ∷ xs) → IsNonDecreasingBy at xs
  tail x xs rises = λ i j d order inside. rises (suc i) (suc j) d (omega arith) (omega arith)

  strip : (b : Bool) (x : X) (us vs : List X) → cond b (x ∷ us) us ≡ cond b (x ∷ vs) vs → us ≡ vs
  strip true x us vs same = cc
  strip false x us vs same = same

  pub one_order : (xs ys : List X) → IsNonDecreasingBy at xs → IsNonDecreasingBy at ys → ((z : X) → filter (with_time z) xs ≡ filter (with_time z) ys) → xs ≡ ys
  one_order [] [] up rising same = refl
  one_order [] (y ∷ ys) up rising same =
      let here : [] ≡ y ∷ filter (with_time y) ys = same y ∙ ap (λ b. cond b (y ∷ filter (with_time y) ys) (filter (with_time y) ys)) (tie_self (at y)) in
      absurd cc
  one_order (x ∷ xs) [] up rising same =
      let here : [] ≡ x ∷ filter (with_time x) xs = sym (same x) ∙ ap (λ b. cond b (x ∷ filter (with_time x) xs) (filter (with_time x) xs)) (tie_self (at x)) in
      absurd cc
  one_order (x ∷ xs) (y ∷ ys) up rising same =
      let from_y : filter (with_time y) (x ∷ xs) ≡ y ∷ filter (with_time y) ys = same y ∙ ap (λ b. cond b (y ∷ filter (with_time y) ys) (filter (with_time y) ys)) (tie_self (at y)) in
      let from_x : filter (with_time x) (y ∷ ys) ≡ x ∷ filter (with_time x) xs = sym (same x) ∙ ap (λ b. cond b (x ∷ filter (with_time x) xs) (filter (with_time x) xs)) (tie_self (at x)) in
      let low_x = head_least x y xs (filter (with_time y) ys) (with_time y) (low x xs up) from_y in
      let low_y = head_least y x ys (filter (with_time x) xs) (with_time x) (low y ys rising) from_x in
      let time : at x ≡ at y = omega arith in
      let heads : y ∷ filter (with_time x) ys ≡ x ∷ filter (with_time x) xs = sym (ap (λ b. cond b (y ∷ filter (with_time x) ys) (filter (with_time x) ys)) (tie_equal (at x) (at y) time)) ∙ from_x in
      let first : y ≡ x = cc in
      let rest = one_order xs ys (tail x xs up) (tail y ys rising) (λ z. strip (with_time z x) x (filter (with_time z) xs) (filter (with_time z) ys) (same z ∙ ap (λ w. cond (with_time z w) (w ∷ filter (with_time z) ys) (filter (with_time z) ys)) first)) in
      λ i. sym first i ∷ rest i

pub one_by_time : (given one other : List Wish) → IsByTime given one → IsByTime given other → one ≡ other
one_by_time given one other by_one by_other =
    one_order (λ (w : Wish). w.at) one other (IsNonDecreasingBy-from_sort (λ (w : Wish). w.at) one by_one.by_time) (IsNonDecreasingBy-from_sort (λ (w : Wish). w.at) other by_other.by_time)
    (λ z. by_one.by_line z ∙ sym (by_other.by_line z))
