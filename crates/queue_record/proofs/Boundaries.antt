-- Where a line may be cut at a blank.
use Rattle.std.proofs.Common.{◌≡◌, ℕ, suc, zero, ◌-◌, ◌<◌, ◌≤◌, ◌⊎◌, inl, inr, not, Bool, true, false, List, [], ◌∷◌, length, get_or, refl, ap, sym, subst, arith}
use Rattle.std.specs.List.{prefix_len}
use Rattle.std.specs.Str.{IsUtf8, IsCharBoundary}
use Rattle.std.proofs.lemmas.Bool.Decides.{nat_tests}
use Rattle.std.proofs.lemmas.List.Sums.{prefix_len_stops, prefix_len-le-length}
use Rattle.std.proofs.lemmas.Str.{IsCharBoundary-end, IsCharBoundary-after_ascii, IsCharBoundary-before_ascii}
use Rattle.ad_token.specs.Lexing.{is_blank}
use Rattle.queue_record.specs.Words.{word_length, begins_blank}

pub blank_ascii : (b : ℕ) → is_blank b ≡ true → b < 128
blank_ascii b h = grind (arith, nat_tests)

not_false : (b : Bool) → not b ≡ false → b ≡ true
not_false true h = refl
not_false false h = absurd cc

cut_at : (bs : List ℕ) (n : ℕ) → n ≡ word_length bs → IsUtf8 bs → (n ≡ length bs) ⊎ (n < length bs) → IsCharBoundary bs n
cut_at bs n e utf8 (inl whole) = subst (λ m. IsCharBoundary bs m) (sym whole) (IsCharBoundary-end bs)
cut_at bs n e utf8 (inr less) =
    let stops : not (is_blank (get_or bs (word_length bs) 0)) ≡ false = prefix_len_stops (λ b. not (is_blank b)) bs 0 (omega arith) in
    let here : is_blank (get_or bs n 0) ≡ true = subst (λ m. is_blank (get_or bs m 0) ≡ true) (sym e) (not_false _ stops) in
    IsCharBoundary-before_ascii bs n less (blank_ascii _ here)

up_to : (n m : ℕ) → n ≤ m → (n ≡ m) ⊎ (n < m)
up_to zero zero le = inl refl
up_to zero (suc m) le = inr (omega arith)
up_to (suc n) zero le = absurd (omega arith)
up_to (suc n) (suc m) le = by (up_to n m (omega arith))
  where
    by : (n ≡ m) ⊎ (n < m) → (suc n ≡ suc m) ⊎ (suc n < suc m)
    by (inl same) = inl (ap suc same)
    by (inr less) = inr (omega arith)

pub word_boundary : (bs : List ℕ) → IsUtf8 bs → IsCharBoundary bs (word_length bs)
word_boundary bs utf8 = cut_at bs (word_length bs) refl utf8 (up_to (word_length bs) (length bs) (prefix_len-le-length (λ b. not (is_blank b)) bs))

pub blank_boundary : (bs : List ℕ) → IsUtf8 bs → begins_blank bs ≡ true → IsCharBoundary bs 1
blank_boundary [] utf8 h = absurd cc
blank_boundary (b ∷ bs) utf8 h = IsCharBoundary-after_ascii (b ∷ bs) 0 utf8 (omega arith) (blank_ascii b h)
