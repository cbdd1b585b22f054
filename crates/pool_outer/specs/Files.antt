-- Files by name, what the calls of a store do to them, and what a stop may leave of them.
use Rattle.std.specs.Prelude.{◌≡◌, ◌≢◌, ◌⊎◌, ℕ, Bool, true, false, ◌<◌, ◌≤◌, ◌++◌, List, [], length, take, drop, Option, Some, None, IsSome, Result, OnOk, OnErr, IsErrOf}
use Rattle.std.specs.List.{list_any}
use Rattle.std.specs.Option.{option_map}
use Rattle.std.specs.Str.{bytes_eq}
use Rattle.pool_outer.specs.declared.store.StoreError.{StoreError}
use Rattle.pool_outer.specs.declared.store.StoreError.TheVariants.{Missing}

-- what each file holds, by its name; none for one that isn't there
abbrev pub Contents : Type 0
Contents = List ℕ → Option (List ℕ)

-- a count of bytes of each file, by its name
abbrev pub Lengths : Type 0
Lengths = List ℕ → ℕ

-- whether each name is known to be there
abbrev pub Names : Type 0
Names = List ℕ → Bool

-- what may be left of each file since a moment, by its name
abbrev pub Images : Type 1
Images = List ℕ → ℕ → List ℕ → Type 0

-- the bytes of a file; a missing one has none
abbrev pub bytes_in : Option (List ℕ) → List ℕ
bytes_in None = []
bytes_in (Some bytes) = bytes

-- n bytes of the file, from that place on, stand at the start of the buffer: none only at the end
-- of the file, or where the buffer is empty
pub record ReadAt (file : Option (List ℕ)) (place n : ℕ) (before after : List ℕ) : Type 0 where
  pub there : IsSome file
  pub front : take n after ≡ take n (drop place (bytes_in file))
  pub behind : drop n after ≡ drop n before
  pub fits : n ≤ length (drop place (bytes_in file))
  pub goes_on : 0 < length before → place < length (bytes_in file) → 0 < n

-- an image of a file of which so many bytes are solid: a prefix that has those bytes
pub record IsImage (solid : ℕ) (bytes image : List ℕ) : Type 0 where
  pub front : image ≡ take (length image) bytes
  pub solid_stays : solid ≤ length image

-- what a stop may leave of the file of that name: its solid bytes and any prefix of those after
-- them; a missing file has the images of an empty one
abbrev pub Leaves : Contents → Lengths → List ℕ → List ℕ → Type 0
Leaves file solid name image = IsImage (solid name) (bytes_in (file name)) image

-- A call leads from one moment to another: what a stop since an earlier moment might have left of a
-- file before the call is still among what it might have left, and beside it is only what a stop
-- may leave after the call.
pub record Elapses
    (before now : ℕ) (past since : Images) (file : Contents) (solid : Lengths) : Type 0 where
  pub later : before ≤ now
  pub keeps :
      (name : List ℕ) (moment : ℕ) (image : List ℕ) → moment ≤ before → past name moment image
      → since name moment image
  pub nothing_else :
      (name : List ℕ) (moment : ℕ) (image : List ℕ) → moment ≤ before → since name moment image
      → past name moment image ⊎ Leaves file solid name image

-- the files hold what they held, and as much of them is solid
abbrev pub SameFiles : Contents → Contents → Lengths → Lengths → Type 0
SameFiles old new old_solid new_solid =
    (name : List ℕ) → (new name ≡ old name) × (new_solid name ≡ old_solid name)

-- so do all files but that of the name
abbrev pub SameOthers : List ℕ → Contents → Contents → Lengths → Lengths → Type 0
SameOthers name old new old_solid new_solid =
    (other : List ℕ) → other ≢ name
    → (new other ≡ old other) × (new_solid other ≡ old_solid other)

-- An append puts bytes at the end of a file, and makes one that isn't there; one that failed put a
-- prefix of them there. No more of the file is solid.
pub record Appends {T : Type 0}
    (name bytes : List ℕ) (old new : Contents) (old_solid new_solid : Lengths)
    (result : Result T StoreError) : Type 0 where
  pub added : OnOk result (new name ≡ Some (bytes_in (old name) ++ bytes))
  pub part : (n : ℕ) × (bytes_in (new name) ≡ bytes_in (old name) ++ take n bytes)
  pub there : IsSome (old name) → IsSome (new name)
  pub solid_stays : new_solid name ≡ old_solid name
  pub others : SameOthers name old new old_solid new_solid

-- A sync makes all bytes of a file solid; one that failed may have made some so.
pub record Syncs {T : Type 0}
    (name : List ℕ) (old new : Contents) (old_solid new_solid : Lengths)
    (result : Result T StoreError) : Type 0 where
  pub there : OnOk result (IsSome (old name))
  pub durable : OnOk result (new_solid name ≡ length (bytes_in (old name)))
  pub no_less : old_solid name ≤ new_solid name
  pub same : new name ≡ old name
  pub others : SameOthers name old new old_solid new_solid

-- A cut leaves a file's first bytes, all of them solid; one that failed did nothing.
pub record Cuts {T : Type 0}
    (name : List ℕ) (size : ℕ) (old new : Contents) (old_solid new_solid : Lengths)
    (result : Result T StoreError) : Type 0 where
  pub there : OnOk result (IsSome (old name))
  pub short : OnOk result (new name ≡ option_map (take size) (old name))
  pub durable : OnOk result (new_solid name ≡ size)
  pub refused : OnErr result (SameFiles old new old_solid new_solid)
  pub others : SameOthers name old new old_solid new_solid

-- A rename moves a file over another, all of it solid there; one that failed did nothing.
pub record Renames {T : Type 0}
    (from to : List ℕ) (old new : Contents) (old_solid new_solid : Lengths)
    (result : Result T StoreError) : Type 0 where
  pub there : OnOk result (IsSome (old from))
  pub moved : OnOk result (new to ≡ old from)
  pub gone : OnOk result (new from ≡ None)
  pub durable : OnOk result (new_solid to ≡ length (bytes_in (old from)))
  pub refused : OnErr result (SameFiles old new old_solid new_solid)
  pub others :
      (other : List ℕ) → other ≢ from → other ≢ to
      → (new other ≡ old other) × (new_solid other ≡ old_solid other)

-- A call misses a name only where it isn't there and isn't known to be.
pub record Misses {T : Type 0}
    (tells : Bool) (file : Contents) (known : Names) (name : List ℕ)
    (result : Result T StoreError) : Type 0 where
  pub absent : tells ≡ true → IsErrOf result Missing → file name ≡ None
  pub unknown : IsErrOf result Missing → known name ≡ false

-- A call that is answered by Ok makes its name known, and no call makes a name unknown.
pub record Learns {T : Type 0}
    (name : List ℕ) (old new : Names) (result : Result T StoreError) : Type 0 where
  pub learnt : OnOk result (new name ≡ true)
  pub stays : (other : List ℕ) → old other ≡ true → new other ≡ true

-- A rename that is answered by Ok takes a name away, and makes another known.
pub record Relabels {T : Type 0}
    (from to : List ℕ) (old new : Names) (result : Result T StoreError) : Type 0 where
  pub learnt : OnOk result (new to ≡ true)
  pub forgotten : OnOk result (new from ≡ false)
  pub stays : (other : List ℕ) → other ≢ from → old other ≡ true → new other ≡ true
  pub kept : OnErr result ((other : List ℕ) → old other ≡ true → new other ≡ true)

-- whether a list of names has that name
abbrev pub is_named : List (List ℕ) → List ℕ → Bool
is_named names name = list_any (λ known. bytes_eq known name) names
