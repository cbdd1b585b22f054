-- Files in memory.
use Rattle.std.specs.Prelude.{◌≡◌, ℕ, List, length, take, drop, min, Option, Result, find, ok_or}
use Rattle.std.specs.Option.{option_map, option_map_or}
use Rattle.std.specs.Str.{bytes_eq}
use Rattle.pool_outer.specs.declared.store.StoreError.{StoreError}
use Rattle.pool_outer.specs.declared.store.StoreError.TheVariants.{Missing}
use Rattle.pool_store.specs.declared.memory.file.MemFile.{MemFile}

-- the first file of that name
abbrev pub found_in : List MemFile → List ℕ → Option MemFile
found_in files name = find (λ file. bytes_eq file.name name) files

-- what it holds
abbrev pub file_in : List MemFile → List ℕ → Option (List ℕ)
file_in files name = option_map (λ file. file.bytes.items) (found_in files name)

-- how many of its first bytes a stop leaves for certain
abbrev pub solid_in : List MemFile → List ℕ → ℕ
solid_in files name = option_map_or (λ file. file.solid) (found_in files name) 0

-- its size
abbrev pub size_in : List MemFile → List ℕ → Result ℕ StoreError
size_in files name = ok_or (option_map length (file_in files name)) Missing

-- So many bytes, from that place on, stand at the start of the buffer: as many as are there and fit
pub record Copies (bytes : List ℕ) (place n : ℕ) (before after : List ℕ) : Type 0 where
  pub count : n ≡ min (length (drop place bytes)) (length before)
  pub copied : take n after ≡ take n (drop place bytes)
  pub rest : drop n after ≡ drop n before
