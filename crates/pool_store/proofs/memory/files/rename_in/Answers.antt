use Rattle.std.proofs.Common.{rules, ◌≡◌, ◌∙◌, ◌++◌, sym, ap, arith, subst, Some, None, Ok, List, [], ◌∷◌, slice_index_or, remove, refl}
use Rattle.std.specs.List.{position_from}
use Rattle.pool_outer.specs.Files.{Renames}
use Rattle.pool_store.specs.MemoryFiles.{file_in, solid_in}
use Rattle.pool_store.specs.declared.memory.file.MemFile.{MemFile}
use Rattle.pool_store.proofs.Finds.{has, place_within, not_found, not_there}
use Rattle.pool_store.proofs.Moves.{renamed, without}
use Rattle.pool_store.proofs.memory.files.rename_in.Goals as goal

pub returns-in-None-clause-missing : goal.returns-in-None-clause-missing
returns-in-None-clause-missing c miss =
    let at : position_from (has c.args.from.now) 0 c.args.files.now.items ≡ None =
    ap (λ files. position_from (has c.args.from.now) 0 files) (sym c.deref.ensures.value) ∙ sym c.in-None.ensures in
    not_there c.args.files.now.items c.args.from.now (not_found c.args.files.now.items c.args.from.now at)

pub remove-file-requires : goal.remove-file-requires
remove-file-requires c =
    let within = place_within c.deref.result.now c.args.from.now c.in-Some.place (sym c.in-Some.ensures) in
    let len = c.deref.ensures.len in
    let same = c.reserve.ensures.len in
    omega (arith, within, len, same)

pub returns-in_ok-reserve-in-Some-clause-renames : goal.returns-in_ok-reserve-in-Some-clause-renames
returns-in_ok-reserve-in-Some-clause-renames c =
    let files = c.args.files.now.items in
    let from = c.args.from.now in
    let to = c.args.to.now in
    let was = c.remove-file.result in
    let file = c.rename.new.self in
    let room : c.reserve.new.self.items ≡ files = c.reserve.ensures.items in
    let at : position_from (has from) 0 files ≡ Some c.in-Some.place = ap (λ l. position_from (has from) 0 l) (sym c.deref.ensures.value) ∙ sym c.in-Some.ensures in
    let reads : was ≡ slice_index_or files c.in-Some.place was = c.remove-file.ensures.value ∙ ap (λ l. slice_index_or l c.in-Some.place was) room in
    let taken : c.remove-file.new.self.items ≡ remove files c.in-Some.place = c.remove-file.ensures.items ∙ ap (λ l. remove l c.in-Some.place) room in
    let one : c.remove_all.new.files.items ≡ without from (remove files c.in-Some.place) = c.remove_all.ensures.items ∙ ap (λ l. without from l) taken in
    let two : c.remove_all-in-Some.new.files.items ≡ without to (without from (remove files c.in-Some.place)) = c.remove_all-in-Some.ensures.items ∙ ap (λ l. without to l) one in
    let put : c.push.new.self.items ≡ c.remove_all-in-Some.new.files.items ++ file ∷ [] = rw (c.push.ensures.items, c.unwrap.ensures) refl in
    let new : c.push.new.self.items ≡ without to (without from (remove files c.in-Some.place)) ++ file ∷ [] = put ∙ ap (λ l. l ++ file ∷ []) two in
    let P = λ (l : List MemFile). Renames {T = Unit {0}} from to (file_in files) (file_in l) (solid_in files) (solid_in l) (Ok tt) in
    let called : file.name ≡ to = search rules in
    subst P (sym new) (renamed files from to c.in-Some.place was file c.requires.apart at reads called c.rename.ensures.bytes c.rename.ensures.solid c.requires.durable)
