-- Integers and reals (HTCondor manual, "ClassAd syntax"). A real whose fraction and exponent are
-- zero is an integer.
use Rattle.ad_value.specs.Bytes.{code}
use Rattle.std.specs.Prelude.{◌≡◌, ◌⊎◌, ℕ, ◌<◌, ◌+◌, ◌^◌, ◌==◌, ◌||◌, pos, Bool, true, List, [], ◌∷◌, ◌++◌, length, take, drop, nat_lt, if◌then◌else◌}
use Rattle.std.specs.Char.{is_ascii_digit}
use Rattle.std.specs.Int.{is_in_range}
use Rattle.std.specs.List.{prefix_len, list_any}
use Rattle.std.specs.Str.{all_ascii_digits}
use Rattle.std.specs.Str.Parse.{digits_value}
use Rattle.ad_token.specs.declared.token.Token.{Token}
use Rattle.ad_token.specs.declared.token.Token.TheVariants as token

abbrev pub digits_length : List ℕ → ℕ
digits_length bs = prefix_len is_ascii_digit bs

-- digits, at least one
abbrev pub AreDigits : List ℕ → Type 0
AreDigits ds = (all_ascii_digits ds ≡ true) × (0 < length ds)

-- nothing, or a dot and perhaps digits
pub data IsFraction : List ℕ → Type 0 where
  none : IsFraction []
  dotted : {ds : List ℕ} → all_ascii_digits ds ≡ true → IsFraction (code "." ∷ ds)

pub data IsSign : List ℕ → Type 0 where
  no_sign : IsSign []
  plus : IsSign (code "+" ∷ [])
  minus : IsSign (code "-" ∷ [])

-- `e` or `E`, perhaps a sign, and digits
pub data IsExponent : List ℕ → Type 0 where
  exponent : (b : ℕ) (sign ds : List ℕ)
      → (b ≡ code "e") ⊎ (b ≡ code "E") → IsSign sign → AreDigits ds
      → IsExponent (b ∷ (sign ++ ds))

-- a dot, and perhaps digits
unfoldable pub fraction_length : List ℕ → ℕ
fraction_length [] = 0
fraction_length (b ∷ bs) = if b == code "." then 1 + digits_length bs else 0

unfoldable pub sign_length : List ℕ → ℕ
sign_length [] = 0
sign_length (b ∷ bs) = if (b == code "+") || (b == code "-") then 1 else 0

-- a sign or none, and at least one digit; 0 where they aren't there
abbrev pub signed_length : List ℕ → ℕ
signed_length bs =
    if nat_lt 0 (digits_length (drop (sign_length bs) bs))
    then sign_length bs + digits_length (drop (sign_length bs) bs)
    else 0

abbrev pub exponent_with : ℕ → ℕ
exponent_with n = if n == 0 then 0 else 1 + n

-- `e` or `E`, and a signed number
unfoldable pub exponent_length : List ℕ → ℕ
exponent_length [] = 0
exponent_length (b ∷ bs) =
    if (b == code "e") || (b == code "E") then exponent_with (signed_length bs)
    else 0

-- a fraction, an exponent, both or none
abbrev pub tail_length : List ℕ → ℕ
tail_length bs = fraction_length bs + exponent_length (drop (fraction_length bs) bs)

abbrev pub is_positive_digit : ℕ → Bool
is_positive_digit b = is_in_range (code "1") (code "9") b

abbrev pub integer_token : List ℕ → Token
integer_token digits =
    if nat_lt (digits_value 10 digits) (2 ^ 63) then token.Int (pos (digits_value 10 digits))
    else token.Range

-- digits, and the fraction and exponent after them
abbrev pub numeral_token : List ℕ → List ℕ → Token
numeral_token digits tail =
    if list_any is_positive_digit tail then token.Real
    else integer_token digits

-- the token that begins with a digit, and its length
unfoldable pub number_token : List ℕ → Token × ℕ
number_token bs =
    let whole = digits_length bs in
    let tail = tail_length (drop whole bs) in
    (numeral_token (take whole bs) (take tail (drop whole bs)), whole + tail)

-- what begins with a dot: a real where digits follow
unfoldable pub point_token : List ℕ → Token × ℕ
point_token bs = (if nat_lt 0 (digits_length (drop 1 bs)) then token.Real else token.Bad, 1)
