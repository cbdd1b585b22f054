-- Runs of ASCII bytes that a text begins with, and where they end.
use Rattle.std.proofs.Common.{◌≡◌, ℕ, zero, suc, pos, ℤ, ◌+◌, ◌^◌, ◌<◌, ◌≤◌, ◌&&◌, Bool, true, false, cond, ltb, List, [], ◌∷◌, length, take, get_or, Result, Err, refl, ap, sym, ◌∙◌, subst, arith, w64}
use Rattle.std.specs.Char.{is_ascii_digit}
use Rattle.std.specs.List.{prefix_len}
use Rattle.std.specs.Result.{OkIff}
use Rattle.std.specs.Str.{IsUtf8, IsCharBoundary, all_ascii_digits}
use Rattle.std.specs.Str.Parse.{ParsesSigned, digits_value}
use Rattle.std.proofs.lemmas.Bool.{ltb-true}
use Rattle.std.proofs.lemmas.Bool.Decides.{nat_tests}
use Rattle.std.proofs.lemmas.List.Sums.{prefix_len_passes, prefix_len-le-length}
use Rattle.std.proofs.lemmas.Str.{IsCharBoundary-start, IsCharBoundary-after_ascii}
use Rattle.std.proofs.lemmas.Str.Parse.{IsNumeralModel, numerals_by_value, tells_all_ascii_digits, parse_signed_digits}
use Rattle.ad_token.specs.declared.token.Token.TheVariants as token
use Rattle.ad_token.specs.Names.{is_letter, is_name_byte, name_length}
use Rattle.ad_token.specs.Numbers.{digits_length, integer_token}

pub name_byte_ascii : (b : ℕ) → is_name_byte b ≡ true → b < 128
name_byte_ascii b h = grind (arith, nat_tests)

pub digit_ascii : (b : ℕ) → is_ascii_digit b ≡ true → b < 128
digit_ascii b h = grind (arith, nat_tests)

run_boundary : (p : ℕ → Bool) → ((b : ℕ) → p b ≡ true → b < 128) → (bs : List ℕ) (n : ℕ) → n ≡ prefix_len p bs → IsUtf8 bs → IsCharBoundary bs n
run_boundary p ascii bs zero e utf8 = IsCharBoundary-start bs utf8
run_boundary p ascii bs (suc n) e utf8 =
    let le : prefix_len p bs ≤ length bs = prefix_len-le-length p bs in
    let one : n + 1 ≡ suc n = omega arith in
    subst (λ m. IsCharBoundary bs m) one (IsCharBoundary-after_ascii bs n utf8 (omega arith) (ascii _ (prefix_len_passes p bs n 0 (omega arith))))

pub digits_boundary : (bs : List ℕ) → IsUtf8 bs → IsCharBoundary bs (digits_length bs)
digits_boundary bs utf8 = run_boundary is_ascii_digit digit_ascii bs _ refl utf8

pub name_boundary : (bs : List ℕ) → IsUtf8 bs → IsCharBoundary bs (name_length bs)
name_boundary bs utf8 = by (is_letter (get_or bs 0 0))
  where
    by : (b : Bool) → IsCharBoundary bs (cond b (prefix_len is_name_byte bs) 0)
    by true = run_boundary is_name_byte name_byte_ascii bs _ refl utf8
    by false = IsCharBoundary-start bs utf8

-- a text may be cut after its first byte, where that is ASCII
pub past_first : (bs : List ℕ) (b : ℕ) → IsUtf8 bs → 0 < length bs → get_or bs 0 0 ≡ b → b < 128 → IsCharBoundary bs 1
past_first bs b utf8 some e h = IsCharBoundary-after_ascii bs 0 utf8 some (omega arith)

pub are_digits : (bs : List ℕ) → all_ascii_digits (take (digits_length bs) bs) ≡ true
are_digits [] = refl
are_digits (b ∷ bs) = by (are_digits bs) (is_ascii_digit b) refl
  where
    by : all_ascii_digits (take (digits_length bs) bs) ≡ true → (d : Bool) → is_ascii_digit b ≡ d → all_ascii_digits (take (cond d (1 + digits_length bs) 0) (b ∷ bs)) ≡ true
    by rest true e =
        let one : 1 + digits_length bs ≡ suc (digits_length bs) = omega arith in
        subst (λ n. all_ascii_digits (take n (b ∷ bs)) ≡ true) (sym one) (ap (λ d. d && all_ascii_digits (take (digits_length bs) bs)) e ∙ rest)
    by rest false e = refl

pub numeral_model : IsNumeralModel (λ ds. all_ascii_digits ds ≡ true) (digits_value 10)
numeral_model = numerals_by_value _ tells_all_ascii_digits

-- digits that `parse` refuses are too large
pub too_large : {E : Type 0} (bs : List ℕ) (r : Result ℤ E) (e : E) → ParsesSigned w64 10 bs r → r ≡ Err e → all_ascii_digits bs ≡ true → 0 < length bs → token.Range ≡ integer_token bs
too_large bs r e h is digits some = by (ltb (digits_value 10 bs) (2 ^ 63)) refl
  where
    refused : OkIff r ((0 < length bs) × (digits_value 10 bs < 2 ^ 63)) (pos (digits_value 10 bs)) → digits_value 10 bs < 2 ^ 63 → ⊥
    refused k small = (subst (λ q. OkIff q ((0 < length bs) × (digits_value 10 bs < 2 ^ 63)) (pos (digits_value 10 bs))) is k) (some, small)

    by : (t : Bool) → ltb (digits_value 10 bs) (2 ^ 63) ≡ t → token.Range ≡ cond t (token.Int (pos (digits_value 10 bs))) token.Range
    by true t = absurd (refused (parse_signed_digits numeral_model w64 bs r h digits) (ltb-true _ _ t))
    by false t = refl
