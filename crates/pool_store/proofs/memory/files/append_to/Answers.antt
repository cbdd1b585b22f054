use Rattle.std.proofs.Common.{rules, ◌≡◌, ◌∙◌, ◌++◌, sym, ap, arith, Some, None, Ok, Err, List, [], ◌∷◌, subst}
use Rattle.pool_outer.specs.Files.{Appends}
use Rattle.pool_store.specs.MemoryFiles.{file_in, solid_in}
use Rattle.pool_store.specs.declared.memory.file.MemFile.{MemFile}
use Rattle.std.specs.List.{position_from}
use Rattle.pool_outer.specs.Files.{bytes_in}
use Rattle.pool_outer.specs.declared.store.StoreError.TheVariants.{Memory}
use Rattle.pool_store.proofs.Finds.{has, place_within, not_found, not_there, pushed, no_solid}
use Rattle.pool_store.proofs.Changes.{more_of, bytes_were, solid_same, puts_it, added, nothing_added}
use Rattle.pool_store.proofs.memory.files.append_to.Goals as goal

pub index_mut-requires : goal.index_mut-requires
index_mut-requires c =
    let within = place_within c.deref.result.now c.args.name.now c.in-Some.place (sym c.in-Some.ensures) in
    let len = c.deref.ensures.len in
    omega (arith, within, len)

pub returns-in_err-append-in-Some-clause-appends : goal.returns-in_err-append-in-Some-clause-appends
returns-in_err-append-in-Some-clause-appends c =
    let files = c.args.files.now.items in
    let name = c.args.name.now in
    let was = c.index_mut.result.now in
    let file = c.append.new.self in
    let reads = c.index_mut.ensures.value in
    let at : position_from (has name) 0 files ≡ Some c.in-Some.place = ap (λ l. position_from (has name) 0 l) (sym c.deref.ensures.value) ∙ sym c.in-Some.ensures in
    let err : c.from_residual.result ≡ Err Memory = search rules in
    let kept : file.name ≡ was.name = c.append.ensures.name in
    let bytes : file.bytes.items ≡ was.bytes.items = c.in_err-append-in-Some.ensures.err in
    nothing_added files _ name c.args.bytes.now file (puts_it files name c.in-Some.place was file at reads kept) (solid_same files name c.in-Some.place was file at reads kept c.append.ensures.solid) c.from_residual.result err (bytes ∙ sym (bytes_were files name c.in-Some.place was file at reads kept))

pub returns-in_ok-append-in-Some-clause-appends : goal.returns-in_ok-append-in-Some-clause-appends
returns-in_ok-append-in-Some-clause-appends c =
    let files = c.args.files.now.items in
    let name = c.args.name.now in
    let was = c.index_mut.result.now in
    let file = c.append.new.self in
    let reads = c.index_mut.ensures.value in
    let at : position_from (has name) 0 files ≡ Some c.in-Some.place = ap (λ l. position_from (has name) 0 l) (sym c.deref.ensures.value) ∙ sym c.in-Some.ensures in
    let kept : file.name ≡ was.name = c.append.ensures.name in
    let bytes : file.bytes.items ≡ was.bytes.items ++ c.args.bytes.now = c.in_ok-append-in-Some.ensures.ok in
    added files _ name c.args.bytes.now file (puts_it files name c.in-Some.place was file at reads kept) (solid_same files name c.in-Some.place was file at reads kept c.append.ensures.solid) (more_of files name c.in-Some.place was file at reads kept c.args.bytes.now bytes)

pub returns-in_ok-push-in-None-clause-appends : goal.returns-in_ok-push-in-None-clause-appends
returns-in_ok-push-in-None-clause-appends c =
    let files = c.args.files.now.items in
    let name = c.args.name.now in
    let file = c.loose-file.result in
    let at : position_from (has name) 0 files ≡ None = ap (λ l. position_from (has name) 0 l) (sym c.deref.ensures.value) ∙ sym c.in-None.ensures in
    let none = not_found files name at in
    let called : file.name ≡ name = search rules in
    let bytes : file.bytes.items ≡ c.args.bytes.now = search rules in
    let new : c.push.new.self.items ≡ files ++ file ∷ [] = c.in_ok-push-in-None.ensures.items in
    let P = λ (l : List MemFile). Appends {T = Unit {0}} name c.args.bytes.now (file_in files) (file_in l) (solid_in files) (solid_in l) (Ok tt) in
    subst P (sym new) (added files (files ++ file ∷ []) name c.args.bytes.now file (pushed files name file none called) (c.loose-file.ensures.solid ∙ sym (no_solid files name none)) (bytes ∙ ap (λ o. bytes_in o ++ c.args.bytes.now) (sym (not_there files name none))))
