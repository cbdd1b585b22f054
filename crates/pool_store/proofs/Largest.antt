-- The largest of numbers.
use Rattle.std.proofs.Common.{◌≡◌, ℕ, ◌≤◌, max, List, [], ◌∷◌, ◌++◌, Option, Some, None, IfSome, refl, ap, arith}
use Rattle.std.specs.List.{All}
use Rattle.std.proofs.lemmas.List.Elements.{All-nil, All-cons}
use Rattle.pool_store.specs.Boots.{with_number, largest_with}

-- one number more
pub largest_push : (m : Option ℕ) (ns : List ℕ) (n : ℕ) → largest_with m (ns ++ n ∷ []) ≡ with_number (largest_with m ns) n
largest_push m [] n = refl
largest_push m (k ∷ ns) n = largest_push (with_number m k) ns n

-- a larger one before does not matter less
pub record IsAbove (m : Option ℕ) (ns : List ℕ) (x : ℕ) : Type 0 where
  pub start : IfSome m (λ k. k ≤ x)
  pub each : All (λ n. n ≤ x) ns

abbrev value_or_0 : Option ℕ → ℕ
value_or_0 None = 0
value_or_0 (Some n) = n

pub largest_is_above : (m : Option ℕ) (ns : List ℕ) (x : ℕ) → largest_with m ns ≡ Some x → IsAbove m ns x
largest_is_above None [] x is = record { start = tt; each = All-nil (λ n. n ≤ x) }
largest_is_above (Some k) [] x is =
    let same : k ≡ x = ap value_or_0 is in
    record { start = omega arith; each = All-nil (λ n. n ≤ x) }
largest_is_above None (n ∷ ns) x is =
    let above = largest_is_above (Some n) ns x is in
    record { start = tt; each = All-cons (λ n. n ≤ x) n ns above.start above.each }
largest_is_above (Some k) (n ∷ ns) x is =
    let above = largest_is_above (Some (max k n)) ns x is in
    let start : max k n ≤ x = above.start in
    record { start = omega arith; each = All-cons (λ n. n ≤ x) n ns (omega arith) above.each }

pub some_largest : (k : ℕ) (ns : List ℕ) → largest_with (Some k) ns ≡ None → ⊥
some_largest k [] is = cc
some_largest k (n ∷ ns) is = some_largest (max k n) ns is

-- no number has no largest one
pub no_largest : (ns : List ℕ) → largest_with None ns ≡ None → ns ≡ []
no_largest [] is = refl
no_largest (n ∷ ns) is = absurd (some_largest n ns is)
