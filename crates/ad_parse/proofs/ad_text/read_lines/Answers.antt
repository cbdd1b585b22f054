use Rattle.std.proofs.Common.{ap, sym, arith}
use Rattle.std.proofs.lemmas.Iterator.Consumers.{YieldsList-at}
use Rattle.std.proofs.lemmas.Iterator.Splits.{YieldsList-from_str_split}
use Rattle.std.proofs.lemmas.Result.{err_from_is_err_and}
use Rattle.ad_parse.specs.AdText.{ad_at, lines_of_text, with_lines}
use Rattle.ad_parse.proofs.Lines.{next_line, no_line, lines_more, lines_end, lines_fail}
use Rattle.ad_parse.proofs.ad_text.read_lines.Goals as goal

pub loop-line-init : goal.loop-line-init
loop-line-init c =
    let s = c.split-line-items.ensures in
    (lines_of_text c.args.text.now, YieldsList-at c.into_iter-line-iterator.ensures.into_iter_gives (YieldsList-from_str_split 10 c.args.text.now (omega arith) s.text s.has_more s.pattern), ap (λ ad. with_lines 1 ad (lines_of_text c.args.text.now)) (sym c.new-ad.ensures))

pub returns-in_err-read_line : goal.returns-in_err-read_line
returns-in_err-read_line c =
    let p = err_from_is_err_and c.from_residual.result c.from_residual.ensures.1 in
    let i = c.loop-line.invariant in
    let next = next_line c.loop-line.line-iterator c.next.new.self c.in-Some.line i.0 i.1 c.in-Some.ensures.steps in
    rw (p.1, p.2) (lines_fail (ad_at c.args.text.now) c.loop-line.number c.loop-line.ad c.in-Some.line.now next.0 i.0 _ i.2 next.1 c.in_err-read_line.ensures)

pub loop-line-preserved : goal.loop-line-preserved
loop-line-preserved c =
    let i = c.loop-line.invariant in
    let next = next_line c.loop-line.line-iterator c.next.new.self c.in-Some.line i.0 i.1 c.in-Some.ensures.steps in
    (next.0, next.2, lines_more (ad_at c.args.text.now) c.loop-line.number c.loop-line.ad c.in-Some.line.now next.0 i.0 _ _ i.2 next.1 c.in_ok-read_line.ensures c.saturating_add-number.ensures)

pub returns : goal.returns
returns c =
    let i = c.loop-line.invariant in
    lines_end (ad_at c.args.text.now) c.loop-line.number c.loop-line.ad i.0 i.2 (no_line c.loop-line.line-iterator c.next.new.self i.0 i.1 c.in-None.ensures.steps)
