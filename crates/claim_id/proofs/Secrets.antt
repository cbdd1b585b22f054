-- A secret's digits are those of its eight bytes.
use Rattle.std.proofs.Common.{◌≡◌, ℕ, ◌<◌, ◌/◌, ◌%◌, Bool, true, ◌||◌, List, [], ◌∷◌, length, slice_index, Ok, suc, zero, refl, arith}
use Rattle.std.specs.Char.{is_ascii_digit}
use Rattle.std.specs.Int.{w64, to_be_bytes, is_in_range}
use Rattle.std.specs.List.{AllPass}
use Rattle.std.proofs.lemmas.List.Elements.{All-cons, All-nil}
use Rattle.std.proofs.lemmas.List.Sums.{AllPass-from_list_all}
use Rattle.hex.specs.Hex.{IsBytes, decode_sized, encode_lower, encode_with, lower_digits}
use Rattle.hex.proofs.HexLemmas.{decode_sized-encode_lower, length-encode_with}
use Rattle.claim_id.specs.Texts.{secret_text}

eight_bytes : (a b c d e f g h : ℕ) → a < 256 → b < 256 → c < 256 → d < 256 → e < 256 → f < 256 → g < 256 → h < 256 → IsBytes (a ∷ b ∷ c ∷ d ∷ e ∷ f ∷ g ∷ h ∷ [])
eight_bytes a b c d e f g h la lb lc ld le lf lg lh zero = la
eight_bytes a b c d e f g h la lb lc ld le lf lg lh (suc zero) = lb
eight_bytes a b c d e f g h la lb lc ld le lf lg lh (suc (suc zero)) = lc
eight_bytes a b c d e f g h la lb lc ld le lf lg lh (suc (suc (suc zero))) = ld
eight_bytes a b c d e f g h la lb lc ld le lf lg lh (suc (suc (suc (suc zero)))) = le
eight_bytes a b c d e f g h la lb lc ld le lf lg lh (suc (suc (suc (suc (suc zero))))) = lf
eight_bytes a b c d e f g h la lb lc ld le lf lg lh (suc (suc (suc (suc (suc (suc zero)))))) = lg
eight_bytes a b c d e f g h la lb lc ld le lf lg lh (suc (suc (suc (suc (suc (suc (suc zero))))))) = lh
eight_bytes a b c d e f g h la lb lc ld le lf lg lh (suc (suc (suc (suc (suc (suc (suc (suc i)))))))) = omega arith

bytes_of : (n : ℕ) → IsBytes (to_be_bytes w64 n)
bytes_of n = eight_bytes _ _ _ _ _ _ _ _ (omega arith) (omega arith) (omega arith) (omega arith) (omega arith) (omega arith) (omega arith) (omega arith)

pub decode-secret : (n : ℕ) → decode_sized (secret_text n) 8 ≡ Ok (to_be_bytes w64 n)
unfolding secret_text
decode-secret n = decode_sized-encode_lower (to_be_bytes w64 n) 8 refl (bytes_of n)

pub length-secret : (n : ℕ) → length (secret_text n) ≡ 16
unfolding secret_text
length-secret n = length-encode_with lower_digits (to_be_bytes w64 n)

abbrev is_digit : ℕ → Bool
is_digit c = is_ascii_digit c || is_in_range 97 102 c

digits_pass : (v : ℕ) → v < 16 → is_digit (slice_index lower_digits v) ≡ true
digits_pass v small = AllPass-from_list_all is_digit lower_digits refl v 0 small

all_pass : (bytes : List ℕ) → IsBytes bytes → AllPass is_digit (encode_lower bytes)
unfolding encode_with
all_pass [] are = All-nil (λ c. is_digit c ≡ true)
all_pass (b ∷ rest) are =
    let fits : b < 256 = are 0 in
    let high = slice_index lower_digits (b / 16) in
    let low = slice_index lower_digits (b % 16) in
    let after = all_pass rest (λ i. are (suc i)) in
    All-cons (λ c. is_digit c ≡ true) high (low ∷ encode_lower rest) (digits_pass (b / 16) (omega arith))
    (All-cons (λ c. is_digit c ≡ true) low (encode_lower rest) (digits_pass (b % 16) (omega arith)) after)

pub digits-secret : (n : ℕ) → AllPass (λ c. is_ascii_digit c || is_in_range 97 102 c) (secret_text n)
unfolding secret_text
digits-secret n = all_pass (to_be_bytes w64 n) (bytes_of n)
