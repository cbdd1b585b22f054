use Rattle.std.proofs.Common.{ap, sym, ◌∙◌}
use Rattle.queue_record.specs.ReadSoFar.{ReadSoFar, fed}
use Rattle.queue_record.proofs.Feeding.{fed_line, fed_bytes, fed_refused, gives_along}
use Rattle.queue_record.proofs.reader.Reader.go_on_with.Goals as goal

pub loop-text-preserved : goal.loop-text-preserved
loop-text-preserved c =
    let i = c.loop-text.invariant in
    let cut = c.in-Some.ensures in
    let step = c.in_default-read_line.ensures in
    record {
      good = step.1;
      rest = ap (λ (r : ReadSoFar). fed r c.in-Some.after.now) step.0
          ∙ sym (ap (fed c.loop-text.self) cut.1 ∙ fed_line c.loop-text.self c.in-Some.text.now c.in-Some.after.now i.good cut.0)
          ∙ i.rest;
    }

pub returns-in-Err : goal.returns-in-Err
returns-in-Err c =
    let i = c.loop-text.invariant in
    let cut = c.in-Some.ensures in (
      c.in-Err.ensures.0,
      λ other.
          sym i.rest
          ∙ ap (fed c.loop-text.self) cut.1
          ∙ fed_line c.loop-text.self c.in-Some.text.now c.in-Some.after.now i.good cut.0
          ∙ ap (λ (r : ReadSoFar). fed r c.in-Some.after.now) (c.in-Err.ensures.1 other)
          ∙ fed_refused c.in-Err.error c.in-Some.after.now,
    )

pub returns : goal.returns
returns c =
    let i = c.loop-text.invariant in
    gives_along c.add.result c.add.new.self _ _ c.add.ensures (sym (fed_bytes c.loop-text.self c.loop-text.rest.now i.good c.in_default.ensures) ∙ i.rest)
