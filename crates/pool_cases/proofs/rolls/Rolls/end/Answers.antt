use Rattle.std.proofs.Common.{◌≡◌, List, Some, refl, sym, ◌∙◌, ap, subst, slice_get}
use Rattle.std.proofs.lemmas.Option.{slice_get_read}
use Rattle.std.specs.Prelude.{map, Option}
use Rattle.receipt_roll.specs.Values.{RollMark}
use Rattle.pool_cases.specs.Marks.{RollMarks, mark_of}
use Rattle.pool_cases.proofs.Marked.{mark_at, marks_set}
use Rattle.pool_cases.proofs.rolls.Rolls.end.Goals as goal

pub returns-in_err-receipt-clause-marks : goal.returns-in_err-receipt-clause-marks
returns-in_err-receipt-clause-marks c =
    let view : List RollMark → RollMarks = λ ends. record { log = c.self.inside.log.mark; ends = ends } in
    let rolls = c.self.inside.ends in
    let at = slice_get_read rolls.items rolls.len c.from.result c.in-Some.roll.now rolls.ok.0
    (c.in-Some.ensures.variant.0 refl) c.in-Some.ensures.value in
    ap view (marks_set rolls.items c.from.result c.in-Some.roll.now c.end_on.new.roll at c.end_on.ensures.mark)
    ∙ c.self.view_is

pub returns-clause-marks : goal.returns-clause-marks
returns-clause-marks c =
    let view : List RollMark → RollMarks = λ ends. record { log = c.self.inside.log.mark; ends = ends } in
    let rolls = c.self.inside.ends in
    let at = slice_get_read rolls.items rolls.len c.from.result c.in-Some.roll.now rolls.ok.0
    (c.in-Some.ensures.variant.0 refl) c.in-Some.ensures.value in
    ap view (marks_set rolls.items c.from.result c.in-Some.roll.now c.end_on.new.roll at c.end_on.ensures.mark)
    ∙ c.self.view_is

pub returns-clause-receipt : goal.returns-clause-receipt
returns-clause-receipt c =
    let mark : RollMarks → Option RollMark = λ m. slice_get m.ends c.args.machine in
    let some : RollMark → Option RollMark = λ m. Some m in
    let rolls = c.self.inside.ends in
    let at = slice_get_read rolls.items rolls.len c.from.result c.in-Some.roll.now rolls.ok.0
    (c.in-Some.ensures.variant.0 refl) c.in-Some.ensures.value in
    ap mark (sym c.self.view_is)
    ∙ subst (λ i. slice_get (map mark_of rolls.items) i ≡ Some c.in-Some.roll.now.mark)
    c.from.ensures (mark_at rolls.items c.from.result c.in-Some.roll.now at)
    ∙ ap some (sym c.in_ok-receipt.ensures.receipt)
