use Rattle.std.proofs.Common.{rules, ◌≡◌, ◌∙◌, ◌++◌, ap, inr, Some, Ok, Err, Result, IsErr, OnOk, take}
use Rattle.pool_outer.specs.Files.{bytes_in}
use Rattle.pool_store.specs.MemoryFiles.{file_in}
use Rattle.pool_store.specs.MemoryParts.{bytes_left}
use Rattle.pool_store.specs.declared.memory.sure.SureStore.{SureStore}
use Rattle.pool_store.proofs.memory.failing.MemStoreStore.append.Goals as goal

not_ok : {T E : Type 0} (result : Result T E) (P : Type 0) → IsErr result → OnOk result P
not_ok (Ok _) P err = cc
not_ok (Err _) P err = tt

pub returns-in-Some-clause-stop : goal.returns-in-Some-clause-stop
returns-in-Some-clause-stop c =
    let name = c.args.name.now in
    let left = c.in-Some.left in
    let is : bytes_left c.args.self.now ≡ Some left = search rules in
    let inner = ap (λ (s : SureStore). bytes_in (file_in s.files.items name) ++ take left c.args.bytes.now) c.begin.ensures.inner in
    record {
      all = not_ok c.write_part.result _ c.write_part.ensures.fails;
      stops = λ failed. inr (left, (is, (c.if-left-bytes.true, (c.write_part.ensures.left failed, c.write_part.ensures.part failed ∙ inner))));
    }
