use Rattle.std.proofs.Common.{◌-◌, ◌++◌, ◌∙◌, ap, length, List, ℕ}
use Rattle.queue_record.proofs.Feeding.{kept_is, kept_if_ok}
use Rattle.queue_record.proofs.reader.keep.Goals as goal

pub returns : goal.returns
returns c =
    kept_if_ok c.extend_from_slice.result c.extend_from_slice.new.self.items c.args.part.now.items c.kept_bytes.result.now _ c.extend_from_slice.ensures.items
    (ap (λ (t : List ℕ). c.args.part.now.items ++ t) c.kept_bytes.ensures ∙ kept_is c.args.part.now.items c.args.bytes.now _ (ap (λ (t : List ℕ). 16385 - length t) c.as_slice.ensures.value))
