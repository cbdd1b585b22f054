-- Amounts of memory and disk, in units of 1,024 or of 1,048,576 bytes.
use Rattle.std.specs.Prelude.{ℕ, ◌+◌, ◌*◌, ◌/◌, ◌^◌, ◌||◌, nat_eq, nat_lt, pos, List, length, take, drop, codes, Option, Some, None, if◌then◌else◌}
use Rattle.std.specs.Char.{is_ascii_digit}
use Rattle.std.specs.List.{prefix_len}
use Rattle.std.specs.Str.Parse.{digits_value}
use Rattle.ad_value.specs.Names.{same_name}
use Rattle.submit_lines.specs.declared.amount.Amount.{Amount}
use Rattle.submit_lines.specs.declared.amount.Amount.TheVariants as amount
use Rattle.submit_lines.specs.declared.amount.AmountUnit.{AmountUnit}
use Rattle.submit_lines.specs.declared.amount.AmountUnit.TheVariants as unit
use Rattle.submit_lines.specs.declared.amount.Suffix.{Suffix}
use Rattle.submit_lines.specs.declared.amount.Suffix.TheVariants as suffix
use Rattle.submit_lines.specs.Numbers.{is_decimal}

abbrev pub digits_length : List ℕ → ℕ
digits_length bs = prefix_len is_ascii_digit bs

-- what stands after the digits, without case
unfoldable pub suffix_of : List ℕ → Option Suffix
suffix_of bs =
    if nat_eq (length bs) 0 then Some suffix.Plain
    else (if same_name bs (codes "K") || same_name bs (codes "KB") then Some suffix.Kilo
    else (if same_name bs (codes "M") || same_name bs (codes "MB") then Some suffix.Mega
    else (if same_name bs (codes "G") || same_name bs (codes "GB") then Some suffix.Giga
    else (if same_name bs (codes "T") || same_name bs (codes "TB") then Some suffix.Tera
    else None))))

-- so many of a suffix in a unit, rounded up
abbrev pub in_units : ℕ → Suffix → AmountUnit → ℕ
in_units n suffix.Plain _ = n
in_units n suffix.Kilo unit.Kib = n
in_units n suffix.Kilo unit.Mib = (n + 1023) / 1024
in_units n suffix.Mega unit.Kib = n * 1024
in_units n suffix.Mega unit.Mib = n
in_units n suffix.Giga unit.Kib = n * 1024 ^ 2
in_units n suffix.Giga unit.Mib = n * 1024
in_units n suffix.Tera unit.Kib = n * 1024 ^ 3
in_units n suffix.Tera unit.Mib = n * 1024 ^ 2

abbrev pub units : ℕ → Amount
units n = if nat_lt n (2 ^ 63) then amount.Units (pos n) else amount.Large

abbrev pub amount_with : List ℕ → Option Suffix → AmountUnit → Amount
amount_with digits None u = amount.Absent
amount_with digits (Some s) u =
    if is_decimal digits then units (in_units (digits_value 10 digits) s u) else amount.Absent

abbrev pub amount_of : List ℕ → AmountUnit → Amount
amount_of bs u =
    amount_with (take (digits_length bs) bs) (suffix_of (drop (digits_length bs) bs)) u
