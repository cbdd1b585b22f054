-- What the calls of a store do where they change one file.
use Rattle.std.proofs.Common.{◌≡◌, ℕ, List, ◌++◌, length, take, Some, Ok, Err, Result, ap, sym, ◌∙◌, arith, subst, OnOk, slice_set, slice_index_or}
use Rattle.std.proofs.lemmas.List.{append-nil, take_all}
use Rattle.std.specs.Option.{option_map}
use Rattle.std.specs.List.{position_from}
use Rattle.pool_outer.specs.Files.{bytes_in, Appends, Syncs, Cuts}
use Rattle.pool_outer.specs.declared.store.StoreError.{StoreError}
use Rattle.pool_outer.specs.declared.store.StoreError.TheVariants.{Memory}
use Rattle.pool_store.specs.declared.memory.file.MemFile.{MemFile}
use Rattle.pool_store.specs.MemoryFiles.{found_in, file_in, solid_in}
use Rattle.pool_store.proofs.Finds.{has, Puts, changed, file_now, solid_now, others_same, file_was, solid_was, there}

module _ (files : List MemFile) (name : List ℕ) (i : ℕ) (was file : MemFile) (at : position_from (has name) 0 files ≡ Some i) (reads : was ≡ slice_index_or files i was) (kept : file.name ≡ was.name) where
  new : List MemFile
  new = slice_set files i file

  abbrev it : (found_in files name ≡ Some was) × Puts name file files (slice_set files i file)
  it = changed files name i was file at reads kept

  pub bytes_were : bytes_in (file_in files name) ≡ was.bytes.items
  bytes_were = ap bytes_in (file_was files name was it.0)

  pub synced : file.bytes.items ≡ was.bytes.items → file.solid ≡ length was.bytes.items → Syncs {T = Unit {0}} name (file_in files) (file_in (slice_set files i file)) (solid_in files) (solid_in (slice_set files i file)) (Ok tt)
  synced bytes solid =
      let is = file_was files name was it.0 in
      let were = solid_was files name was it.0 in
      let now = solid_now name file files (slice_set files i file) it.1 in
      let fits = was.fits in
      record {
        there = there (file_in files name) was.bytes.items is;
        durable = now ∙ solid ∙ ap length (sym bytes_were);
        no_less = omega (arith, were, now, solid, fits);
        same = file_now name file files (slice_set files i file) it.1 ∙ ap (λ b. Some b) bytes ∙ sym is;
        others = others_same name file files (slice_set files i file) it.1;
      }

  pub cut_to : (size : ℕ) → file.bytes.items ≡ take size was.bytes.items → file.solid ≡ size → Cuts {T = Unit {0}} name size (file_in files) (file_in (slice_set files i file)) (solid_in files) (solid_in (slice_set files i file)) (Ok tt)
  cut_to size bytes solid =
      let is = file_was files name was it.0 in
      record {
        there = there (file_in files name) was.bytes.items is;
        short = file_now name file files (slice_set files i file) it.1 ∙ ap (λ b. Some b) bytes ∙ ap (λ o. option_map (take size) o) (sym is);
        durable = solid_now name file files (slice_set files i file) it.1 ∙ solid;
        refused = tt;
        others = others_same name file files (slice_set files i file) it.1;
      }

  pub more_of : (bytes : List ℕ) → file.bytes.items ≡ was.bytes.items ++ bytes → file.bytes.items ≡ bytes_in (file_in files name) ++ bytes
  more_of bytes is = is ∙ ap (λ b. b ++ bytes) (sym bytes_were)

  pub solid_same : file.solid ≡ was.solid → file.solid ≡ solid_in files name
  solid_same is = is ∙ sym (solid_was files name was it.0)

  pub puts_it : Puts name file files (slice_set files i file)
  puts_it = it.1

-- so many more bytes stand at the end of the file of a name
module _ (files new : List MemFile) (name bytes : List ℕ) (file : MemFile) (puts : Puts name file files new) (solid : file.solid ≡ solid_in files name) where
  pub added : file.bytes.items ≡ bytes_in (file_in files name) ++ bytes → Appends {T = Unit {0}} name bytes (file_in files) (file_in new) (solid_in files) (solid_in new) (Ok tt)
  added is = record {
    added = file_now name file files new puts ∙ ap (λ b. Some b) is;
    part = (length bytes, ap bytes_in (file_now name file files new puts) ∙ is ∙ ap (λ b. bytes_in (file_in files name) ++ b) (sym (take_all (length bytes) bytes (omega arith))));
    there = λ was. there (file_in new name) file.bytes.items (file_now name file files new puts);
    solid_stays = solid_now name file files new puts ∙ solid;
    others = others_same name file files new puts;
  }

  pub nothing_added : (result : Result (Unit {0}) StoreError) → result ≡ Err Memory → file.bytes.items ≡ bytes_in (file_in files name) → Appends name bytes (file_in files) (file_in new) (solid_in files) (solid_in new) result
  nothing_added result err is = record {
    added = subst (λ r. OnOk r (file_in new name ≡ Some (bytes_in (file_in files name) ++ bytes))) (sym err) tt;
    part = (0, ap bytes_in (file_now name file files new puts) ∙ is ∙ sym (append-nil (bytes_in (file_in files name))));
    there = λ was. there (file_in new name) file.bytes.items (file_now name file files new puts);
    solid_stays = solid_now name file files new puts ∙ solid;
    others = others_same name file files new puts;
  }
