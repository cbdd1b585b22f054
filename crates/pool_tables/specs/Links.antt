-- Which things of a list are in one box, as links from each to the one before it.
use Rattle.std.specs.Prelude.{◌≡◌, ℕ, zero, suc, ◌+◌, ◌≤◌, ◌<◌, nat_lt, nat_le, List, [], ◌∷◌, ◌++◌, length, slice_get, slice_set, Option, Some, None, IfSome, MatchOption, if◌then◌else◌}
use Rattle.pool_outer.specs.declared.gate.Daemon.{Daemon}
use Rattle.pool_outer.specs.declared.gate.Daemon.TheVariants.{Schedd, Startd, Matchmaker}

-- the place of a daemon's box: the schedd's, the matchmaker's, and those of the startds
abbrev pub box_of : Daemon → ℕ
box_of Schedd = 0
box_of Matchmaker = 1
box_of (Startd machine) = machine + 2

-- the thing of that number is in the box
abbrev pub IsIn : List ℕ → ℕ → ℕ → Type 0
IsIn boxes box n = slice_get boxes n ≡ Some box

-- the last number below a bound that is in the box
abbrev pub IsLastBelow : List ℕ → ℕ → ℕ → Option ℕ → Type 0
IsLastBelow boxes box bound last = MatchOption last
    ((n : ℕ) → n < bound → ¬ IsIn boxes box n)
    (λ m. (m < bound) × (IsIn boxes box m × ((n : ℕ) → m < n → n < bound → ¬ IsIn boxes box n)))

-- the first number from another on that is in the box
abbrev pub IsNext : List ℕ → ℕ → ℕ → Option ℕ → Type 0
IsNext boxes box from next = MatchOption next
    ((n : ℕ) → from ≤ n → ¬ IsIn boxes box n)
    (λ m. (from ≤ m) × (IsIn boxes box m × ((n : ℕ) → from ≤ n → n < m → ¬ IsIn boxes box n)))

-- each thing has the last one before it in its box, of so many boxes
pub record AreLinked (count : ℕ) (boxes : List ℕ) (before : List (Option ℕ)) : Type 0 where
  pub each : (n box : ℕ) → box < count → IsIn boxes box n
      → IfSome (slice_get before n) (IsLastBelow boxes box n)
  pub long : length before ≡ length boxes

-- each box has its last thing
abbrev pub AreLast : List ℕ → List (Option ℕ) → Type 0
AreLast boxes last = (box : ℕ) → IfSome (slice_get last box) (IsLastBelow boxes box (length boxes))

-- the last thing of a box
abbrev pub last_in : Option (Option ℕ) → Option ℕ
last_in None = None
last_in (Some last) = last

-- the box has a new last thing
abbrev pub with_last : ℕ → ℕ → List (Option ℕ) → List (Option ℕ)
with_last box n last = if nat_lt box (length last) then slice_set last box (Some n) else last

-- the number, where it is at least another
abbrev pub at_least : Option ℕ → ℕ → Option ℕ
at_least None from = None
at_least (Some n) from = if nat_le from n then Some n else None

-- boxes with nothing in them
abbrev pub empty_boxes : ℕ → List (Option ℕ)
empty_boxes zero = []
empty_boxes (suc count) = empty_boxes count ++ None ∷ []
