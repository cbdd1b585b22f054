-- What a run of calls of a store leaves of all files but one.
use Rattle.std.specs.Prelude.{◌≡◌, ◌≢◌, ◌⊎◌, ℕ, Bool, true, List, IsSome}
use Rattle.pool_outer.specs.Files.{Contents, Images, Lengths, Leaves, Names, SameOthers}
use Rattle.pool_store.specs.Moments.{LeavesOnly}

-- they hold what they held, as much of each is solid, and a stop leaves nothing else of them than
-- before
pub record KeepsOthers {D : Type 0} (file : D → Contents) (solid : D → Lengths) (moment : D → ℕ)
    (left_since : D → Images) (name : List ℕ) (old new : D) : Type 0 where
  pub same : SameOthers name (file old) (file new) (solid old) (solid new)
  pub quiet :
      (other : List ℕ) → other ≢ name
      → LeavesOnly moment left_since other old new (Leaves (file old) (solid old) other)

-- the file of that name is there, by all that is told of a store
abbrev pub IsSurelyThere : Bool → Contents → Names → List ℕ → Type 0
IsSurelyThere tells file known name =
    (known name ≡ true) ⊎ ((tells ≡ true) × IsSome (file name))
