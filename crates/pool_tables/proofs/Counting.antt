-- One time more for a number of a map.
use Rattle.std.proofs.Common.{◌≡◌, ℕ, ◌+◌, ◌<◌, ◌^◌, true, false, Bool, cond, List, [], ◌∷◌, Some, refl, ap, sym, ◌∙◌, subst, arith}
use Rattle.std.specs.Ordering.{nat_cmp}
use Rattle.std.specs.BTreeMap.{insert_entry, is_at}
use Rattle.std.specs.Map.{lookup}
use Rattle.std.proofs.lemmas.Cmp.{nat_cmp_total}
use Rattle.std.proofs.lemmas.Map.Lookups.{exact_unsigned}
use Rattle.std.proofs.lemmas.Map.Views.{tells_apart}
use Rattle.ordered_map.proofs.Maps.{lookup-insert_entry}
use Rattle.pool_tables.specs.Repeats.{AreCounts, is_number, times_found, times_in, times_of}

times_put : (n m times : ℕ) (es : List (ℕ × ℕ)) → times_of n (insert_entry nat_cmp es m times) ≡ times_found (cond (is_at (nat_cmp m) n) (Some times) (lookup (is_at (nat_cmp n)) es))
times_put n m times es = ap times_found (lookup-insert_entry nat_cmp_total n m times es)

-- the number that is counted is found as each that is the same
same_times : (n m : ℕ) (es : List (ℕ × ℕ)) → is_at (nat_cmp m) n ≡ true → times_of n es ≡ times_of m es
same_times n m es same = let equal : m ≡ n = tells_apart exact_unsigned m n same in ap (λ k. times_of k es) (sym equal)

pub one_more : (m : ℕ) (es : List (ℕ × ℕ)) (n : ℕ) → times_of n (insert_entry nat_cmp es m (times_of m es + 1)) ≡ is_number m n + times_of n es
one_more m es n = times_put n m (times_of m es + 1) es ∙ by (is_at (nat_cmp m) n) refl
  where
    by : (b : Bool) → is_at (nat_cmp m) n ≡ b → times_found (cond b (Some (times_of m es + 1)) (lookup (is_at (nat_cmp n)) es)) ≡ cond b 1 0 + times_of n es
    by true e = let same = same_times n m es e in omega arith
    by false e = omega arith

pub still_counts : (m : ℕ) (es : List (ℕ × ℕ)) → AreCounts es → times_of m es + 2 < 2 ^ 64 → AreCounts (insert_entry nat_cmp es m (times_of m es + 1))
still_counts m es counts few n = let h = one_more m es n in by (is_at (nat_cmp m) n) refl h
  where
    by : (b : Bool) → is_at (nat_cmp m) n ≡ b → times_of n (insert_entry nat_cmp es m (times_of m es + 1)) ≡ cond b 1 0 + times_of n es → times_of n (insert_entry nat_cmp es m (times_of m es + 1)) + 1 < 2 ^ 64
    by true e h = let same = same_times n m es e in omega arith
    by false e h = let few : times_of n es + 1 < 2 ^ 64 = counts n in omega arith

-- what was counted, and what is left, is all
pub record Counted (whole rest : List ℕ) (es : List (ℕ × ℕ)) : Type 0 where
  pub times : (n : ℕ) → times_of n es + times_in n rest ≡ times_in n whole
  pub counts : AreCounts es

pub counted_none : (whole : List ℕ) → Counted whole whole []
counted_none whole = record {
  times = λ n. omega arith;
  counts = λ n. omega arith;
}

pub counted_more : (whole left rest : List ℕ) (m : ℕ) (old new : List (ℕ × ℕ)) → Counted whole left old → left ≡ m ∷ rest → ((n : ℕ) → times_of n new ≡ is_number m n + times_of n old) → AreCounts new → Counted whole rest new
counted_more whole left rest m old new c is more counts = record {
  times = λ n. let before : times_of n old + times_in n (m ∷ rest) ≡ times_in n whole = subst (λ (xs : List ℕ). times_of n old + times_in n xs ≡ times_in n whole) is (c.times n) in let one = more n in omega arith;
  counts = counts;
}

pub counted_all : (whole left : List ℕ) (es : List (ℕ × ℕ)) → Counted whole left es → left ≡ [] → (n : ℕ) → times_of n es ≡ times_in n whole
counted_all whole left es c is n = let all : times_of n es + times_in n [] ≡ times_in n whole = subst (λ (xs : List ℕ). times_of n es + times_in n xs ≡ times_in n whole) is (c.times n) in omega arith

pub ruleset counted = (counted_none, counted_more, counted_all)
