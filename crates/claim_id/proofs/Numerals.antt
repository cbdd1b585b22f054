-- Where a number in digits ends.
use Rattle.std.proofs.Common.{◌≡◌, ◌≢◌, ℕ, ◌<◌, ◌^◌, ◌⊎◌, List, ◌∷◌, ◌++◌, length, get_or, decimal, Option, MatchOption, Bor, arith}
use Rattle.std.specs.Int.{IsInRange}
use Rattle.std.proofs.lemmas.Fmt.{digits_decimal}
use Rattle.std.proofs.lemmas.Str.Parse.{numerals_by_value, tells_by_index}
use Rattle.std.proofs.lemmas.Str.Pattern.{IsSplitOnceResult, split_after}

pub no_mark_in : (mark n : ℕ) → n < 2 ^ 64 → (mark < 48) ⊎ (57 < mark) → (i : ℕ) → i < length (decimal n) → get_or (decimal n) i 0 ≢ mark
no_mark_in mark n small outside i inside = let here : IsInRange 48 57 (get_or (decimal n) i 0) = digits_decimal (numerals_by_value _ tells_by_index) n small i inside in omega arith

-- a text that begins with a number and a mark is cut between the two
pub cut_number : (mark n : ℕ) (text rest : List ℕ) (parts : Option (Bor (List ℕ) × Bor (List ℕ))) → IsSplitOnceResult mark text parts → mark < 128 → (mark < 48) ⊎ (57 < mark) → n < 2 ^ 64 → text ≡ decimal n ++ mark ∷ rest → MatchOption parts ⊥ (λ p. (p.0.now ≡ decimal n) × (p.1.now ≡ rest))
cut_number mark n text rest parts is ascii outside small begins = split_after mark text (decimal n) rest parts is ascii begins (no_mark_in mark n small outside)
