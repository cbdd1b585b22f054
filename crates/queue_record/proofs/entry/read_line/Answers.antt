use Rattle.std.proofs.Common.{refl, sym, ◌∙◌, arith}
use Rattle.queue_record.specs.Entries.{entry}
use Rattle.queue_record.proofs.RecordLemmas.{read_is_record, record_is_read}
use Rattle.queue_record.proofs.entry.read_line.Goals as goal

pub returns-in-Ok-Some-clause-found : goal.returns-in-Ok-Some-clause-found
returns-in-Ok-Some-clause-found c =
    let said = rw c.in-Ok-Some.field-0-is at c.in-Ok-Some.ensures in
    (omega arith, read_is_record c.args.line.now (entry c.in-Ok-Some.entry) (sym said))

pub returns-in-Ok-None-clause-refused : goal.returns-in-Ok-None-clause-refused
returns-in-Ok-None-clause-refused c =
    let said = rw c.in-Ok-None.field-0-is at c.in-Ok-None.ensures in
    (refl, omega arith, λ e is. (let clash = said ∙ record_is_read c.args.line.now e is in absurd (cc clash)))
