-- Why bytes are no file of boots.
use Rattle.std.specs.Prelude.{◌≡◌, ◌≢◌, ◌+◌, ℕ, List, ◌∷◌, ◌++◌, length, decimal, All}
use Rattle.ad_value.specs.Bytes.{code}
use Rattle.pool_store.specs.declared.error.BootError.{BootError}
use Rattle.pool_store.specs.declared.error.BootError.TheVariants.{BadNumber}
use Rattle.pool_store.specs.Boots.{IsBoot, boot_lines, HasNoNewline}

-- behind lines of numbers a whole line that is none
pub record IsBadLine (bytes : List ℕ) (place : ℕ) : Type 0 where
  pub before : List ℕ
  pub line : List ℕ
  pub after : List ℕ
  pub parts : bytes ≡ boot_lines before ++ (line ++ code "\n" ∷ after)
  pub in_range : All IsBoot before
  pub one_line : HasNoNewline line
  pub no_number : (n : ℕ) → IsBoot n → line ≢ decimal n
  pub counted : place ≡ length before + 1

abbrev pub IsRefused : List ℕ → BootError → Type 0
IsRefused bytes (BadNumber line) = IsBadLine bytes line
