use Rattle.std.proofs.Common.{ap, sym, refl, ◌∙◌}
use Rattle.line_text.specs.UnderWay.{frames}
use Rattle.line_text.proofs.Steps.{expanded, same_state}
use Rattle.line_text.proofs.expansion.expand.Goals as goal

pub returns-clause-ok : goal.returns-clause-ok
returns-clause-ok c =
    let e = c.run.new.self in
    let made = c.in_ok-expansion.ensures in
    let r = c.in_ok-run.ensures in
    expanded c.args.table.now c.args.text.now c.in_ok-join.field-0 e.progress.items (frames e.suspended.items) e.written (same_state (sym (r.table ∙ made.table)) (sym (r.given ∙ made.given)) refl refl refl r.sound) (ap frames r.ended) c.in_ok-join.ensures.text c.in_ok-join.ensures.within
