-- The file of boots as it is opened.
use Rattle.std.specs.Prelude.{◌≡◌, ◌≤◌, ℕ, Bool, true, List, length, take, Option}
use Rattle.std.specs.Option.{option_map}
use Rattle.pool_outer.specs.Cause.{Rose}
use Rattle.pool_outer.specs.Files.{bytes_in}
use Rattle.pool_store.specs.declared.boots.Boots.{Boots}
use Rattle.pool_store.specs.declared.error.OpenBootsError.{OpenBootsError}
use Rattle.pool_store.specs.declared.error.OpenBootsError.TheVariants.{BadNumber, Failed, Memory}
use Rattle.pool_store.specs.Boots.{SaysBoots}
use Rattle.pool_store.specs.BadNumbers.{IsBadLine}

-- What a file said, and what is left of it: its whole lines, all of them solid. A file that isn't
-- there says nothing, and is not made.
pub record AreOpened (old new : Option (List ℕ)) (solid : ℕ) (boots : Boots) : Type 0 where
  pub says : SaysBoots (bytes_in old) boots
  pub cut : new ≡ option_map (take boots.whole) old
  pub durable : length (bytes_in new) ≤ solid

-- the whole lines of bytes that say some boots
pub record AreWholeLines (bytes lines : List ℕ) : Type 0 where
  pub boots : Boots
  pub says : SaysBoots bytes boots
  pub whole : lines ≡ take boots.whole bytes

-- Why a file of boots can't be opened: the first bad line of its bytes, told of a store that tells
-- what its files hold; the store has failed; memory has run out.
abbrev pub IsOpenRefused : Bool → List ℕ → ℕ → ℕ → OpenBootsError → Type 0
IsOpenRefused tells bytes before now (BadNumber line) = tells ≡ true → IsBadLine bytes line
IsOpenRefused tells bytes before now Failed = Rose before now
IsOpenRefused tells bytes before now Memory = Unit {0}
