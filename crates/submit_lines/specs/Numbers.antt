-- Decimal numbers without leading zeros.
use Rattle.ad_value.specs.Bytes.{code}
use Rattle.std.specs.Prelude.{ℕ, ◌==◌, ◌&&◌, ◌||◌, ◌-◌, ◌^◌, not, min, nat_eq, nat_lt, nat_le, ℤ, pos, neg_ℤ, Bool, List, length, drop, slice_index, Option, Some, None, if◌then◌else◌}
use Rattle.std.specs.Str.{all_ascii_digits}
use Rattle.std.specs.Str.Parse.{digits_value}

-- digits, at least one, and no zero before others
abbrev pub is_decimal : List ℕ → Bool
is_decimal bs =
    nat_lt 0 (length bs)
    && (all_ascii_digits bs && (nat_eq (length bs) 1 || not (slice_index bs 0 == code "0")))

-- the number, or the greatest of 64 bits where it is above that
abbrev pub decimal : List ℕ → Option ℕ
decimal bs = if is_decimal bs then Some (min (digits_value 10 bs) (2 ^ 64 - 1)) else None

-- the integer of 64 bits
abbrev pub positive : List ℕ → Option ℤ
positive ds =
    if is_decimal ds && nat_lt (digits_value 10 ds) (2 ^ 63)
    then Some (pos (digits_value 10 ds))
    else None

abbrev pub negative : List ℕ → Option ℤ
negative ds =
    if is_decimal ds && nat_le (digits_value 10 ds) (2 ^ 63)
    then Some (neg_ℤ (pos (digits_value 10 ds)))
    else None

abbrev pub integer : List ℕ → Option ℤ
integer bs = if slice_index bs 0 == code "-" then negative (drop 1 bs) else positive bs
