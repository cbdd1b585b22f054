-- What a stop at any moment of a run of store calls may leave of a file.
use Rattle.std.specs.Prelude.{◌≡◌, ◌⊎◌, ℕ, ◌≤◌, List, ◌++◌, length, take}
use Rattle.pool_outer.specs.Files.{Contents, Images, Lengths, Leaves}

-- A stop at any moment from one state of a store to another leaves of the file of that name what
-- has P; and what a stop since an earlier moment might have left was so before, or has P.
pub record LeavesOnly {D : Type 0} (moment : D → ℕ) (left_since : D → Images) (name : List ℕ)
    (old new : D) (P : List ℕ → Type 0) : Type 0 where
  pub later : moment old ≤ moment new
  pub each : (image : List ℕ) → left_since new name (moment old) image → P image
  pub before :
      (earlier : ℕ) (image : List ℕ) → earlier ≤ moment old → left_since new name earlier image
      → left_since old name earlier image ⊎ P image

-- an image while bytes are written behind others, of which so many are solid
pub record IsReached (solid : ℕ) (bytes more image : List ℕ) : Type 0 where
  pub front : image ≡ take (length image) (bytes ++ more)
  pub solid_stays : solid ≤ length image

-- the file of that name holds what it held, no less of it is solid, and a stop leaves nothing else
-- of it than before
pub record KeepsFile {D : Type 0} (file : D → Contents) (solid : D → Lengths) (moment : D → ℕ)
    (left_since : D → Images) (name : List ℕ) (old new : D) : Type 0 where
  pub same : file new name ≡ file old name
  pub no_less : solid old name ≤ solid new name
  pub quiet :
      LeavesOnly moment left_since name old new (λ image. Leaves (file old) (solid old) name image)
