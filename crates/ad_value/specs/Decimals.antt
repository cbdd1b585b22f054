-- Numbers as configurations, scripts, queue statements and identifiers have them.
use Rattle.std.specs.Prelude.{◌≡◌, ℕ, ◌<◌, ◌^◌, List, decimal}

-- a text is a number of 64 bits in decimal digits, without sign and without leading zeros
abbrev pub IsNumber : List ℕ → ℕ → Type 0
IsNumber text n = (n < 2 ^ 64) × (text ≡ decimal n)
