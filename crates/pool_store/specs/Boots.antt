-- The file of boots: lines that have one number each.
use Rattle.std.specs.Prelude.{◌≡◌, ◌<◌, ◌≤◌, ◌+◌, ◌==◌, nat_lt, not, max, ℕ, List, [], ◌∷◌, ◌++◌, length, decimal, All, IsTrue, Option, Some, None, if◌then◌else◌}
use Rattle.std.specs.List.{list_all}
use Rattle.ad_value.specs.Bytes.{code}
use Rattle.pool_store.specs.declared.boots.TheConstants.{LAST_BOOT}
use Rattle.pool_store.specs.declared.boots.Boots.{Boots}

-- a number that a boot may have
pub record IsBoot (n : ℕ) : Type 0 where
  pub from : 0 < n
  pub to : n ≤ LAST_BOOT

-- the lines of numbers
abbrev pub boot_lines : List ℕ → List ℕ
boot_lines [] = []
boot_lines (n ∷ ns) = decimal n ++ code "\n" ∷ boot_lines ns

abbrev pub HasNoNewline : List ℕ → Type 0
HasNoNewline bytes = IsTrue (list_all (λ b. not (b == code "\n")) bytes)

-- the larger one, where there was a number
abbrev pub with_number : Option ℕ → ℕ → Option ℕ
with_number None n = Some n
with_number (Some m) n = Some (max m n)

-- the largest of numbers, where there are some
abbrev pub largest_with : Option ℕ → List ℕ → Option ℕ
largest_with m [] = m
largest_with m (n ∷ ns) = largest_with (with_number m n) ns

abbrev pub largest_of : List ℕ → Option ℕ
largest_of ns = largest_with None ns

-- lines of numbers, and a tail without newline
pub record SaysBoots (bytes : List ℕ) (boots : Boots) : Type 0 where
  pub numbers : List ℕ
  pub tail : List ℕ
  pub parts : bytes ≡ boot_lines numbers ++ tail
  pub in_range : All IsBoot numbers
  pub torn : HasNoNewline tail
  pub greatest : boots.largest ≡ largest_of numbers
  pub counted : boots.whole ≡ length (boot_lines numbers)

-- one more than the largest, or 1; none above the greatest
abbrev pub next_boot : Option ℕ → Option ℕ
next_boot None = Some 1
next_boot (Some n) = if nat_lt n LAST_BOOT then Some (n + 1) else None
