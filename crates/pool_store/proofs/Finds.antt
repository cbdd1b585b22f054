-- The first file of a name, before and after a change of one file.
use Rattle.std.proofs.Common.{◌≡◌, ◌≢◌, ℕ, suc, ◌+◌, ◌<◌, Bool, true, false, List, [], ◌∷◌, ◌++◌, length, Option, Some, None, IsSome, refl, ap, sym, subst, ◌∙◌, arith, slice_set, slice_index_or}
use Rattle.std.proofs.lemmas.Slice.Eq.{bytes_eq-Decides}
use Rattle.std.proofs.lemmas.List.Folds.{find_past, find-append}
use Rattle.std.specs.List.{find, position_from}
use Rattle.std.specs.Option.{option_map, option_map_or, option_or}
use Rattle.std.specs.Str.{bytes_eq}
use Rattle.pool_outer.specs.Files.{SameOthers}
use Rattle.pool_store.specs.declared.memory.file.MemFile.{MemFile}
use Rattle.pool_store.specs.MemoryFiles.{found_in, file_in, solid_in}

-- whether a file has that name
abbrev pub has : List ℕ → MemFile → Bool
has name file = bytes_eq file.name name

-- the first place of what passes
pub record Place {X : Type 0} (p : X → Bool) (xs : List X) (i : ℕ) : Type 0 where
  pub within : i < length xs
  pub passes : (d : X) → p (slice_index_or xs i d) ≡ true
  pub found : (d : X) → find p xs ≡ Some (slice_index_or xs i d)
  pub puts : (y : X) → p y ≡ true → find p (slice_set xs i y) ≡ Some y

-- where the front passes it is the first, and else the first place is behind it
from_front : {X : Type 0} (p : X → Bool) (n : ℕ) (x : X) (xs : List X) (k : ℕ) → (position_from p (n + 1) xs ≡ Some k → (i : ℕ) × ((k ≡ i + (n + 1)) × Place p xs i)) → (b : Bool) → p x ≡ b → position_from p n (x ∷ xs) ≡ Some k → (i : ℕ) × ((k ≡ i + n) × Place p (x ∷ xs) i)
from_front p n x xs k rest true is at =
    let first : Some n ≡ Some k = rw is at at in
    (0, (let same : n ≡ k = cc in omega (arith, same), record { within = omega arith; passes = λ d. is; found = λ d. rw is refl; puts = λ y pass. rw pass refl }))
from_front p n x xs k rest false is at =
    let later : position_from p (n + 1) xs ≡ Some k = rw is at at in
    let found = rest later in
    let counts = found.1.0 in
    let it = found.1.1 in
    (suc found.0, (omega (arith, counts), record { within = omega (arith, it.within); passes = it.passes; found = λ d. rw is (it.found d); puts = λ y pass. rw is (it.puts y pass) }))

pub place : {X : Type 0} (p : X → Bool) (n : ℕ) (xs : List X) (k : ℕ) → position_from p n xs ≡ Some k → (i : ℕ) × ((k ≡ i + n) × Place p xs i)
place p n [] k at = cc
place p n (x ∷ xs) k at = from_front p n x xs k (place p (n + 1) xs k) (p x) refl at

-- a file of that name is now the first of its name, and other names have the file that they had
pub record Puts (name : List ℕ) (file : MemFile) (old new : List MemFile) : Type 0 where
  pub now : found_in new name ≡ Some file
  pub others : (other : List ℕ) → other ≢ name → found_in new other ≡ found_in old other

-- a file of one name has no other
pub has_one : (name other : List ℕ) (file : MemFile) → other ≢ name → file.name ≡ name → has other file ≡ false
has_one name other file apart is = not_true (has other file) refl
  where
    not_true : (b : Bool) → has other file ≡ b → has other file ≡ false
    not_true false same = same
    not_true true same = absurd (apart (sym ((bytes_eq-Decides file.name other).0 same) ∙ is))

pub has_name : (name : List ℕ) (file : MemFile) → file.name ≡ name → has name file ≡ true
has_name name file is = (bytes_eq-Decides file.name name).1 is

-- the first file of a name is changed, and keeps its name
pub changed : (files : List MemFile) (name : List ℕ) (i : ℕ) (was file : MemFile) → position_from (has name) 0 files ≡ Some i → was ≡ slice_index_or files i was → file.name ≡ was.name
    → (found_in files name ≡ Some was) × Puts name file files (slice_set files i file)
changed files name i was file at reads kept =
    let first = place (has name) 0 files i at in
    let same : first.0 ≡ i = omega (arith, first.1.0) in
    let it : Place (has name) files i = subst (λ k. Place (has name) files k) same first.1.1 in
    let called : was.name ≡ name = (bytes_eq-Decides was.name name).0 (ap (has name) reads ∙ it.passes was) in (
      it.found was ∙ ap (λ f. Some f) (sym reads),
      record {
        now = it.puts file (has_name name file (kept ∙ called));
        others = λ other apart. find_past (has other) files i file was (ap (has other) (sym reads) ∙ has_one name other was apart called) (has_one name other file apart (kept ∙ called));
      },
    )

-- a file of a name that wasn't there is put at the end
pub pushed : (files : List MemFile) (name : List ℕ) (file : MemFile) → found_in files name ≡ None → file.name ≡ name → Puts name file files (files ++ file ∷ [])
pushed files name file none is = record {
  now = find-append (has name) files (file ∷ []) ∙ rw (none, has_name name file is) refl;
  others = λ other apart. find-append (has other) files (file ∷ []) ∙ rw (has_one name other file apart is) (or_none (found_in files other));
}
  where
    or_none : (o : Option MemFile) → option_or o None ≡ o
    or_none None = refl
    or_none (Some f) = refl

none_from_front : {X : Type 0} (p : X → Bool) (n : ℕ) (x : X) (xs : List X) → (position_from p (n + 1) xs ≡ None → find p xs ≡ None) → (b : Bool) → p x ≡ b → position_from p n (x ∷ xs) ≡ None → find p (x ∷ xs) ≡ None
none_from_front p n x xs rest true is at = let never : Some n ≡ None = rw is at at in cc
none_from_front p n x xs rest false is at = let later : position_from p (n + 1) xs ≡ None = rw is at at in rw is (rest later)

missing : {X : Type 0} (p : X → Bool) (n : ℕ) (xs : List X) → position_from p n xs ≡ None → find p xs ≡ None
missing p n [] at = refl
missing p n (x ∷ xs) at = none_from_front p n x xs (missing p (n + 1) xs) (p x) refl at

-- a name without a place has no file
pub not_found : (files : List MemFile) (name : List ℕ) → position_from (has name) 0 files ≡ None → found_in files name ≡ None
not_found files name at = missing (has name) 0 files at

module _ (name : List ℕ) (file : MemFile) (old new : List MemFile) (puts : Puts name file old new) where
  pub file_now : file_in new name ≡ Some file.bytes.items
  file_now = ap (λ found. option_map (λ f. f.bytes.items) found) puts.now

  pub solid_now : solid_in new name ≡ file.solid
  solid_now = ap (λ found. option_map_or (λ f. f.solid) found 0) puts.now

  pub others_same : SameOthers name (file_in old) (file_in new) (solid_in old) (solid_in new)
  others_same = λ other apart. (
    ap (λ found. option_map (λ f. f.bytes.items) found) (puts.others other apart),
    ap (λ found. option_map_or (λ f. f.solid) found 0) (puts.others other apart),
  )

pub place_within : (files : List MemFile) (name : List ℕ) (i : ℕ) → position_from (has name) 0 files ≡ Some i → i < length files
place_within files name i at = let first = place (has name) 0 files i at in omega (arith, first.1.0, first.1.1.within)

pub file_was : (files : List MemFile) (name : List ℕ) (was : MemFile) → found_in files name ≡ Some was → file_in files name ≡ Some was.bytes.items
file_was files name was found = ap (λ o. option_map (λ f. f.bytes.items) o) found

pub solid_was : (files : List MemFile) (name : List ℕ) (was : MemFile) → found_in files name ≡ Some was → solid_in files name ≡ was.solid
solid_was files name was found = ap (λ o. option_map_or (λ f. f.solid) o 0) found

pub there : {X : Type 0} (o : Option X) (x : X) → o ≡ Some x → IsSome o
there o x is = subst IsSome (sym is) refl

pub not_there : (files : List MemFile) (name : List ℕ) → found_in files name ≡ None → file_in files name ≡ None
not_there files name none = ap (λ o. option_map (λ f. f.bytes.items) o) none

pub no_solid : (files : List MemFile) (name : List ℕ) → found_in files name ≡ None → solid_in files name ≡ 0
no_solid files name none = ap (λ o. option_map_or (λ f. f.solid) o 0) none
