-- What a rename does to a list of files.
use Rattle.std.proofs.Common.{◌≡◌, ◌≢◌, ℕ, zero, suc, ◌<◌, ◌≤◌, Bool, true, false, not, cond, List, [], ◌∷◌, ◌++◌, length, Option, Some, None, Ok, refl, ap, sym, subst, ◌∙◌, arith, slice_index_or, filter, remove}
use Rattle.std.proofs.lemmas.Slice.Eq.{bytes_eq-Decides}
use Rattle.std.proofs.lemmas.List.Folds.{find-append}
use Rattle.std.specs.List.{find, position_from}
use Rattle.std.specs.Option.{option_or, option_map, option_map_or}
use Rattle.pool_outer.specs.Files.{bytes_in, Renames}
use Rattle.pool_store.specs.declared.memory.file.MemFile.{MemFile}
use Rattle.pool_store.specs.MemoryFiles.{found_in, file_in, solid_in}
use Rattle.pool_store.proofs.Finds.{has, has_one, has_name, Place, place, file_was, solid_was, there}

-- the files that don't have a name
abbrev pub without : List ℕ → List MemFile → List MemFile
without name files = filter (λ file. not (has name file)) files

none_left : (name : List ℕ) (files : List MemFile) → found_in (without name files) name ≡ None
none_left name [] = refl
none_left name (file ∷ files) = one (has name file) refl (none_left name files)
  where
    one : (b : Bool) → has name file ≡ b → found_in (without name files) name ≡ None → found_in (without name (file ∷ files)) name ≡ None
    one true is rest = rw is rest
    one false is rest = rw (is, is) rest

-- two names of one file are equal
same_name : (name other : List ℕ) (file : MemFile) → has name file ≡ true → has other file ≡ true → other ≡ name
same_name name other file is too = sym ((bytes_eq-Decides file.name other).0 too) ∙ (bytes_eq-Decides file.name name).0 is

others_left : (name other : List ℕ) → other ≢ name → (files : List MemFile) → found_in (without name files) other ≡ found_in files other
others_left name other apart [] = refl
others_left name other apart (file ∷ files) = one (has name file) refl (has other file) refl (others_left name other apart files)
  where
    one : (b : Bool) → has name file ≡ b → (d : Bool) → has other file ≡ d → found_in (without name files) other ≡ found_in files other → found_in (without name (file ∷ files)) other ≡ found_in (file ∷ files) other
    one true is true too rest = absurd (apart (same_name name other file is too))
    one true is false too rest = rw (is, too) rest
    one false is true too rest = rw (is, too) refl
    one false is false too rest = rw (is, too) rest

-- taking away what doesn't pass
removed : {X : Type 0} (p : X → Bool) (xs : List X) (i : ℕ) → ((d : X) → p (slice_index_or xs i d) ≡ false) → i < length xs → find p (remove xs i) ≡ find p xs
removed p [] i fails within = absurd (omega (arith, within))
removed p (x ∷ xs) zero fails within = rw (fails x) refl
removed p (x ∷ xs) (suc i) fails within = ap (λ rest. cond (p x) (Some x) rest) (removed p xs i fails (omega (arith, within)))

or_none : {X : Type 0} (o : Option X) → option_or o None ≡ o
or_none None = refl
or_none (Some x) = refl

module _ (files : List MemFile) (from to : List ℕ) (i : ℕ) (was file : MemFile) (apart : from ≢ to) (at : position_from (has from) 0 files ≡ Some i) (reads : was ≡ slice_index_or files i was) (called : file.name ≡ to) where
  first : Place (has from) files i
  first =
      let it = place (has from) 0 files i at in
      let same : it.0 ≡ i = omega (arith, it.1.0) in
      subst (λ k. Place (has from) files k) same it.1.1

  -- the list after the rename
  abbrev new : List MemFile
  new = without to (without from (remove files i)) ++ file ∷ []

  moved : found_in new to ≡ Some file
  moved = find-append (has to) (without to (without from (remove files i))) (file ∷ []) ∙ rw (none_left to (without from (remove files i)), has_name to file called) refl

  reversed : to ≢ from
  reversed is = apart (sym is)

  gone : found_in new from ≡ None
  gone =
      find-append (has from) (without to (without from (remove files i))) (file ∷ [])
      ∙ rw (others_left to from apart (without from (remove files i)), none_left from (remove files i), has_one to from file apart called) refl

  others : (other : List ℕ) → other ≢ from → other ≢ to → found_in new other ≡ found_in files other
  others other not_from not_to =
      let fails : (d : MemFile) → has other (slice_index_or files i d) ≡ false = λ d. has_one from other (slice_index_or files i d) not_from ((bytes_eq-Decides (slice_index_or files i d).name from).0 (first.passes d)) in
      find-append (has other) (without to (without from (remove files i))) (file ∷ [])
      ∙ rw (has_one to other file not_to called) (or_none (found_in (without to (without from (remove files i))) other))
      ∙ others_left to other not_to (without from (remove files i))
      ∙ others_left from other not_from (remove files i)
      ∙ removed (has other) files i fails first.within

  it_was : found_in files from ≡ Some was
  it_was = first.found was ∙ ap (λ f. Some f) (sym reads)

  pub renamed : file.bytes.items ≡ was.bytes.items → file.solid ≡ was.solid → length (bytes_in (file_in files from)) ≤ solid_in files from → Renames {T = Unit {0}} from to (file_in files) (file_in new) (solid_in files) (solid_in new) (Ok tt)
  renamed bytes solid durable =
      let is = file_was files from was it_was in
      let were = solid_was files from was it_was in
      let size = ap (λ o. length (bytes_in o)) is in
      let fits = was.fits in
      let all : was.solid ≡ length (bytes_in (file_in files from)) = omega (arith, durable, were, size, fits) in
      record {
        there = there (file_in files from) was.bytes.items is;
        moved = file_was new to file moved ∙ ap (λ b. Some b) bytes ∙ sym is;
        gone = ap (λ o. option_map (λ f. f.bytes.items) o) gone;
        durable = solid_was new to file moved ∙ solid ∙ all;
        refused = tt;
        others = λ other not_from not_to. (
          ap (λ o. option_map (λ f. f.bytes.items) o) (others other not_from not_to),
          ap (λ o. option_map_or (λ f. f.solid) o 0) (others other not_from not_to),
        );
      }
