-- Integers of values, and counts.
use Rattle.std.specs.Prelude.{ℕ, pos, neg_ℤ, Bool, ◌^◌, ◌&&◌, List, length, drop, chars, nat_lt, nat_le, if◌then◌else◌}
use Rattle.std.specs.Str.{all_ascii_digits}
use Rattle.std.specs.Str.Parse.{digits_value, starts_with_minus}
use Rattle.ad_value.specs.Content.{Content, error, truth, integer, text, items, list_content}
use Rattle.ad_value.specs.Order.{number_of}

-- one digit or more
abbrev pub is_number : List ℕ → Bool
is_number ds = nat_lt 0 (length ds) && all_ascii_digits ds

-- the digits of a number within 64 bits, with a minus before them or without one
abbrev pub negative_integer : List ℕ → Content
negative_integer ds =
    if is_number ds && nat_le (digits_value 10 ds) (2 ^ 63)
    then integer (neg_ℤ (pos (digits_value 10 ds)))
    else error

abbrev pub unsigned_integer : List ℕ → Content
unsigned_integer ds =
    if is_number ds && nat_lt (digits_value 10 ds) (2 ^ 63)
    then integer (pos (digits_value 10 ds))
    else error

abbrev pub read_integer : List ℕ → Content
read_integer s =
    if starts_with_minus s then negative_integer (drop 1 s) else unsigned_integer s

abbrev pub int_of : Content → Content
int_of (truth b) = integer (number_of b)
int_of (integer n) = integer n
int_of (text s) = read_integer s
int_of v = error

-- the characters of a text, the items of a list
abbrev pub size_of : Content → Content
size_of (text s) = integer (pos (length (chars s)))
size_of (items l) = integer (pos (length (list_content l)))
size_of v = error

-- a reading of the clock that is past the integers is an error
abbrev pub time_of : ℕ → Content
time_of now = if nat_lt now (2 ^ 63) then integer (pos now) else error
