-- How often mails may be received again.
use Rattle.std.specs.Prelude.{ℕ, ◌+◌, ◌<◌, ◌^◌, List, [], ◌∷◌, Option, Some, None, if◌then◌else◌}
use Rattle.std.specs.Ordering.{nat_cmp}
use Rattle.std.specs.BTreeMap.{is_at}
use Rattle.std.specs.Map.{lookup}

-- 1 where it is the number, else 0
abbrev pub is_number : ℕ → ℕ → ℕ
is_number m n = if is_at (nat_cmp m) n then 1 else 0

-- how often a number is in a list
abbrev pub times_in : ℕ → List ℕ → ℕ
times_in n [] = 0
times_in n (m ∷ ms) = is_number m n + times_in n ms

abbrev pub times_found : Option ℕ → ℕ
times_found None = 0
times_found (Some times) = times

-- how often more than once the mail of a number may be received, by a map in order
abbrev pub times_of : ℕ → List (ℕ × ℕ) → ℕ
times_of n entries = times_found (lookup (is_at (nat_cmp n)) entries)

-- one time more is still a number of 64 bits
abbrev pub AreCounts : List (ℕ × ℕ) → Type 0
AreCounts entries = (n : ℕ) → times_of n entries + 1 < 2 ^ 64
