use Rattle.std.proofs.Common.{◌≡◌, ◌∙◌, sym, ap, arith, Some, None, length, refl}
use Rattle.std.specs.List.{position_from}
use Rattle.pool_store.proofs.Finds.{has, place_within, not_found, not_there}
use Rattle.pool_store.proofs.Changes.{cut_to, bytes_were}
use Rattle.pool_store.proofs.memory.files.cut_in.Goals as goal

pub index_mut-requires : goal.index_mut-requires
index_mut-requires c =
    let within = place_within c.deref.result.now c.args.name.now c.in-Some.place (sym c.in-Some.ensures) in
    let len = c.deref.ensures.len in
    omega (arith, within, len)

pub cut-requires : goal.cut-requires
cut-requires c =
    let at : position_from (has c.args.name.now) 0 c.args.files.now.items ≡ Some c.in-Some.place =
    ap (λ files. position_from (has c.args.name.now) 0 files) (sym c.deref.ensures.value) ∙ sym c.in-Some.ensures in
    let were = ap length (bytes_were c.args.files.now.items c.args.name.now c.in-Some.place c.index_mut.result.now c.index_mut.result.now at c.index_mut.ensures.value refl) in
    omega (arith, were, c.requires)

pub returns-in-Some-clause-cuts : goal.returns-in-Some-clause-cuts
returns-in-Some-clause-cuts c =
    let at : position_from (has c.args.name.now) 0 c.args.files.now.items ≡ Some c.in-Some.place =
    ap (λ files. position_from (has c.args.name.now) 0 files) (sym c.deref.ensures.value) ∙ sym c.in-Some.ensures in
    cut_to c.args.files.now.items c.args.name.now c.in-Some.place c.index_mut.result.now c.cut.new.self at c.index_mut.ensures.value c.cut.ensures.name c.args.size c.cut.ensures.bytes c.cut.ensures.solid

pub returns-in-None-clause-missing : goal.returns-in-None-clause-missing
returns-in-None-clause-missing c miss =
    let at : position_from (has c.args.name.now) 0 c.args.files.now.items ≡ None =
    ap (λ files. position_from (has c.args.name.now) 0 files) (sym c.deref.ensures.value) ∙ sym c.in-None.ensures in
    not_there c.args.files.now.items c.args.name.now (not_found c.args.files.now.items c.args.name.now at)
