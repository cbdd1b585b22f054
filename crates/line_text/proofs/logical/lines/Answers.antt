use Rattle.std.proofs.Common.{◌++◌, ap, sym, ◌∙◌, string_bytes}
use Rattle.std.specs.Str.Lines.{lines}
use Rattle.std.proofs.lemmas.Iterator.Consumers.{YieldsList-at}
use Rattle.std.proofs.lemmas.Iterator.Splits.{YieldsList-from_lines}
use Rattle.line_text.specs.Lines.{logical_lines, logical_from, kept}
use Rattle.line_text.proofs.Left.{next_left, none_left}
use Rattle.line_text.proofs.LineLemmas.{line_joins, line_ends, lines_end}
use Rattle.line_text.proofs.logical.lines.Goals as goal

pub loop-line-init : goal.loop-line-init
loop-line-init c =
    let text = c.args.text.now in
    (lines text, YieldsList-at c.into_iter-line-iterator.ensures.into_iter_gives (YieldsList-from_lines text c.lines-line-items.ensures.rest), λ i. sym c.new-list.ensures i ++ logical_from 1 1 (sym c.new-joined.ensures.bytes i) (lines text))

pub loop-line-preserved-in-Continue-1 : goal.loop-line-preserved-in-Continue-1
loop-line-preserved-in-Continue-1 c =
    let i = c.loop-line.invariant in
    let line = c.in-Some.line.now in
    let joined = string_bytes c.loop-line.joined in
    let next = next_left c.loop-line.line-iterator c.next.new.self c.in-Some.line i.0 i.1 c.in-Some.ensures.steps in
    (next.0, next.2, line_joins (logical_lines c.args.text.now) c.loop-line.list c.loop-line.first c.loop-line.number _ joined line next.0 i.0 i.2 next.1 c.saturating_add-number.ensures _ (sym c.ends_in_backslash.ensures ∙ c.if-ends_in_backslash.true) (c.in_ok-push_str.ensures.bytes ∙ ap (λ s. joined ++ s) c.without_last.ensures))

pub loop-line-preserved : goal.loop-line-preserved
loop-line-preserved c =
    let i = c.loop-line.invariant in
    let line = c.in-Some.line.now in
    let joined = string_bytes c.loop-line.joined in
    let next = next_left c.loop-line.line-iterator c.next.new.self c.in-Some.line i.0 i.1 c.in-Some.ensures.steps in
    let text = c.as_str.ensures.value ∙ c.in_ok-push_str-2.ensures.bytes in
    let m = c.saturating_add-number.result in
    let ends = line_ends (logical_lines c.args.text.now) c.loop-line.list c.loop-line.first c.loop-line.number m joined line next.0 i.0 i.2 next.1 c.saturating_add-number.ensures c.keep.new.list (sym c.ends_in_backslash.ensures ∙ c.if-ends_in_backslash.false) (c.in_ok-keep.ensures ∙ ap (λ t. c.loop-line.list ++ kept c.loop-line.first t) text) in
    (next.0, next.2, ends ∙ ap (λ j. c.keep.new.list ++ logical_from m m j next.0) (sym c.clear.ensures.bytes))

pub returns : goal.returns
returns c =
    let i = c.loop-line.invariant in
    lines_end (logical_lines c.args.text.now) c.loop-line.list c.loop-line.first c.loop-line.number (string_bytes c.loop-line.joined) i.0 c.keep-2.new.list i.2
    (none_left c.loop-line.line-iterator c.next.new.self i.0 i.1 c.in-None.ensures.steps)
    (c.in_ok-keep-2.ensures ∙ ap (λ t. c.loop-line.list ++ kept c.loop-line.first t) c.as_str-2.ensures.value)
