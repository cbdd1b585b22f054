-- What files in memory were, and what a stop might have left of them then.
use Rattle.std.specs.Prelude.{◌⊎◌, ◌≤◌, ℕ, List, [], ◌∷◌, length, drop, None, Some, Option, Vec}
use Rattle.std.specs.Option.{option_map, option_map_or}
use Rattle.std.specs.declared.alloc.Global.{Global}
use Rattle.std.specs.declared.snapshot.Snapshot.{Snapshot}
use Rattle.std.proofs.Common.{inl, inr, arith}
use Rattle.pool_outer.specs.Files.{bytes_in, Leaves}
use Rattle.pool_store.specs.declared.memory.file.MemFile.{MemFile}
use Rattle.pool_store.specs.MemoryFiles.{found_in, file_in, solid_in}

-- what the files were, from the first moment on
abbrev pub Past : Type 0
Past = List (Snapshot (Vec MemFile Global))

-- what a stop may leave of the file of that name
abbrev pub LeftNow : List MemFile → List ℕ → List ℕ → Type 0
LeftNow files name image = Leaves (file_in files) (solid_in files) name image

-- what a stop at one of those moments might have left of it
abbrev pub LeftThen : Past → List ℕ → List ℕ → Type 0
LeftThen [] name image = ⊥
LeftThen (was ∷ past) name image = LeftNow was.value.items name image ⊎ LeftThen past name image

-- what a stop since that moment might have left of it
abbrev pub LeftSince : Past → List MemFile → List ℕ → ℕ → List ℕ → Type 0
LeftSince past files name moment image =
    LeftNow files name image ⊎ LeftThen (drop moment past) name image

no_moment : (past : Past) (name image : List ℕ) → LeftThen (drop (length past) past) name image → ⊥
no_moment [] name image left = left
no_moment (was ∷ past) name image left = no_moment past name image left

-- since the last moment there is only what a stop may leave now
pub only_left_now :
    (past : Past) (files : List MemFile) (name image : List ℕ)
    → LeftSince past files name (length past) image → LeftNow files name image
only_left_now past files name image (inl now) = now
only_left_now past files name image (inr left) = absurd (no_moment past name image left)

fits :
    (found : Option MemFile)
    → option_map_or (λ file. file.solid) found 0
    ≤ length (bytes_in (option_map (λ file. file.bytes.items) found))
fits None = Prim.omega arith
fits (Some file) = file.fits

-- no more of a file is solid than there is
pub solid_fits :
    (files : List MemFile) (name : List ℕ)
    → solid_in files name ≤ length (bytes_in (file_in files name))
solid_fits files name = fits (found_in files name)
