-- What `parse` reads, in the words of the definitions.
use Rattle.std.proofs.Common.{◌≡◌, ℕ, ℤ, pos, ◌^◌, ◌-◌, ◌<◌, ◌≤◌, ◌&&◌, ◌||◌, not, min, Bool, true, false, cond, ltb, if◌then◌else◌, nat_lt, nat_le, List, [], ◌∷◌, length, get_or, drop, Option, Some, None, Result, Ok, Err, refl, ap, sym, ◌∙◌, subst, arith, rules, tests, w64}
use Rattle.std.specs.Char.{is_ascii_digit}
use Rattle.std.specs.List.{list_any}
use Rattle.std.specs.Result.{OkIff}
use Rattle.std.specs.Str.{all_ascii_digits}
use Rattle.std.specs.Str.Parse.{ParsesUnsigned, ParsesSigned, digits_value}
use Rattle.std.proofs.lemmas.Bool.{ltb-true, ltb-false, leb-true, lt-ltb, le-leb}
use Rattle.std.proofs.lemmas.Str.Parse.{IsNumeralModel, numerals_by_value, tells_all_ascii_digits, parse_digits, parse_signed_digits, parse_signed_minus}
use Rattle.submit_lines.specs.declared.amount.Amount.TheVariants as amount
use Rattle.submit_lines.specs.declared.amount.Suffix.{Suffix}
use Rattle.submit_lines.specs.declared.amount.Suffix.TheVariants as suffix
use Rattle.submit_lines.specs.declared.amount.AmountUnit.{AmountUnit}
use Rattle.submit_lines.specs.declared.amount.AmountUnit.TheVariants as unit
use Rattle.submit_lines.specs.Amounts.{in_units, units}
use Rattle.submit_lines.specs.Numbers.{is_decimal, positive, negative}

numeral : IsNumeralModel (λ ds. all_ascii_digits ds ≡ true) (digits_value 10)
numeral = numerals_by_value _ tells_all_ascii_digits

-- each is a digit where none is anything else
pub digits_listed : (ds : List ℕ) → not (list_any (λ b. not (is_ascii_digit b)) ds) ≡ all_ascii_digits ds
digits_listed [] = refl
digits_listed (d ∷ ds) = by (is_ascii_digit d) (digits_listed ds)
  where
    by : (t : Bool) → not (list_any (λ b. not (is_ascii_digit b)) ds) ≡ all_ascii_digits ds → not (not t || list_any (λ b. not (is_ascii_digit b)) ds) ≡ (t && all_ascii_digits ds)
    by true more = more
    by false more = refl

-- what a reader gives, without its error
abbrev pub ok_of : {E : Type 0} → Result ℤ E → Option ℤ
ok_of (Ok n) = Some n
ok_of (Err e) = None

by_test : {E : Type 0} (b : Bool) (r : Result ℤ E) (Q : Type 0) (x : ℤ) → OkIff r Q x → (Q → b ≡ true) → (b ≡ true → Q) → (if b then Some x else None) ≡ ok_of r
by_test true (Ok n) Q x h to from = ap Some (sym h.1)
by_test true (Err e) Q x h to from = absurd (h (from refl))
by_test false (Ok n) Q x h to from = let e = to h.0 in cc
by_test false (Err e) Q x h to from = refl

digits_of : (bs : List ℕ) → is_decimal bs ≡ true → (all_ascii_digits bs ≡ true) × (0 < length bs)
digits_of bs h = search (rules, tests)

pub positive_read : {E : Type 0} (bs : List ℕ) (r : Result ℤ E) → ParsesSigned w64 10 bs r → is_decimal bs ≡ true → positive bs ≡ ok_of r
positive_read bs r h form =
    let d = digits_of bs form in
    by_test _ r _ _ (parse_signed_digits numeral w64 bs r h d.0)
    (λ q. ap (λ b. b && nat_lt (digits_value 10 bs) (2 ^ 63)) form ∙ lt-ltb _ _ q.1)
    (λ b. (d.1, ltb-true _ _ (sym (ap (λ b. b && nat_lt (digits_value 10 bs) (2 ^ 63)) form) ∙ b)))

pub negative_read : {E : Type 0} (bs : List ℕ) (r : Result ℤ E) → ParsesSigned w64 10 bs r → get_or bs 0 0 ≡ 45 → is_decimal (drop 1 bs) ≡ true → negative (drop 1 bs) ≡ ok_of r
negative_read bs r h minus form =
    let d = digits_of (drop 1 bs) form in
    by_test _ r _ _ (parse_signed_minus numeral w64 bs r h minus)
    (λ q. ap (λ b. b && nat_le (digits_value 10 (drop 1 bs)) (2 ^ 63)) form ∙ le-leb _ _ q.2)
    (λ b. (d.0, d.1, leb-true _ _ (sym (ap (λ b. b && nat_le (digits_value 10 (drop 1 bs)) (2 ^ 63)) form) ∙ b)))

-- a number that is read is the digits' value, and one that is refused is too large
read_small : {E : Type 0} (k : ℕ) (bs : List ℕ) (r : Result ℕ E) (n : ℕ) → ParsesUnsigned k 10 bs r → r ≡ Ok n → all_ascii_digits bs ≡ true → (digits_value 10 bs < 2 ^ k) × (n ≡ digits_value 10 bs)
read_small k bs r n h e digits =
    let q = subst (λ q. OkIff q ((0 < length bs) × (digits_value 10 bs < 2 ^ k)) (digits_value 10 bs)) e (parse_digits numeral k bs r h digits) in
    (q.0.1, q.1)

read_large : {E : Type 0} (k : ℕ) (bs : List ℕ) (r : Result ℕ E) (e : E) → ParsesUnsigned k 10 bs r → r ≡ Err e → all_ascii_digits bs ≡ true → 0 < length bs → 2 ^ k ≤ digits_value 10 bs
read_large k bs r e h is digits some = by (ltb (digits_value 10 bs) (2 ^ k)) refl
  where
    refused : digits_value 10 bs < 2 ^ k → ⊥
    refused small = (subst (λ q. OkIff q ((0 < length bs) × (digits_value 10 bs < 2 ^ k)) (digits_value 10 bs)) is (parse_digits numeral k bs r h digits)) (some, small)

    by : (t : Bool) → ltb (digits_value 10 bs) (2 ^ k) ≡ t → 2 ^ k ≤ digits_value 10 bs
    by true t = absurd (refused (ltb-true _ _ t))
    by false t = ltb-false _ _ t

pub number_small : {E : Type 0} (bs : List ℕ) (r : Result ℕ E) (n : ℕ) → ParsesUnsigned 64 10 bs r → r ≡ Ok n → all_ascii_digits bs ≡ true → n ≡ min (digits_value 10 bs) (2 ^ 64 - 1)
number_small bs r n h e digits = let q = read_small 64 bs r n h e digits in omega (arith, q.0, q.1)

pub number_large : {E : Type 0} (bs : List ℕ) (r : Result ℕ E) (e : E) → ParsesUnsigned 64 10 bs r → r ≡ Err e → all_ascii_digits bs ≡ true → 0 < length bs → 18446744073709551615 ≡ min (digits_value 10 bs) (2 ^ 64 - 1)
number_large bs r e h is digits some = let q = read_large 64 bs r e h is digits some in omega (arith, q)

pub wide_small : {E : Type 0} (bs : List ℕ) (r : Result ℕ E) (n : ℕ) → ParsesUnsigned 128 10 bs r → r ≡ Ok n → all_ascii_digits bs ≡ true → n ≡ digits_value 10 bs
wide_small bs r n h e digits = (read_small 128 bs r n h e digits).1

pub wide_large : {E : Type 0} (bs : List ℕ) (r : Result ℕ E) (e : E) → ParsesUnsigned 128 10 bs r → r ≡ Err e → all_ascii_digits bs ≡ true → 0 < length bs → 2 ^ 73 ≤ digits_value 10 bs
wide_large bs r e h is digits some = let q = read_large 128 bs r e h is digits some in omega (arith, q)

-- 2^73 KiB are 2^63 MiB, and so many of any other suffix are not fewer units
at_least : (n : ℕ) → 2 ^ 73 ≤ n → (s : Suffix) (u : AmountUnit) → 2 ^ 63 ≤ in_units n s u
at_least n h suffix.Plain u = omega (arith, h)
at_least n h suffix.Kilo unit.Kib = omega (arith, h)
at_least n h suffix.Kilo unit.Mib = omega (arith, h)
at_least n h suffix.Mega unit.Kib = omega (arith, h)
at_least n h suffix.Mega unit.Mib = omega (arith, h)
at_least n h suffix.Giga unit.Kib = omega (arith, h)
at_least n h suffix.Giga unit.Mib = omega (arith, h)
at_least n h suffix.Tera unit.Kib = omega (arith, h)
at_least n h suffix.Tera unit.Mib = omega (arith, h)

pub large_in_units : (n : ℕ) (s : Suffix) (u : AmountUnit) → 2 ^ 73 ≤ n → units (in_units n s u) ≡ amount.Large
large_in_units n s u h = by (ltb (in_units n s u) (2 ^ 63)) refl
  where
    by : (t : Bool) → ltb (in_units n s u) (2 ^ 63) ≡ t → cond t (amount.Units (pos (in_units n s u))) amount.Large ≡ amount.Large
    by true t = absurd (omega (arith, at_least n h s u, ltb-true _ _ t))
    by false t = refl
