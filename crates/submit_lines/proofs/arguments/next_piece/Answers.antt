use Rattle.std.proofs.Common.{true, sym, ◌∙◌, subst, arith, IsCharBoundary}
use Rattle.submit_lines.proofs.Boundaries.{past_pair, stop_boundary}
use Rattle.submit_lines.proofs.Pieces.{plain_at}
use Rattle.submit_lines.proofs.arguments.next_piece.Goals as goal

pub range_from-requires : goal.range_from-requires
range_from-requires c = λ _. past_pair c.args.text.now 92 34 c.utf8.text (sym c.is_pair.ensures ∙ c.if-is_pair.true) (omega arith) (omega arith)

pub range-requires-clause-end_boundary : goal.range-requires-clause-end_boundary
range-requires-clause-end_boundary c = subst (λ n. IsCharBoundary c.args.text.now n) (sym c.run_before-run.ensures.value) (stop_boundary c.args.text.now 92 (omega arith))

pub range_from-requires-else-starts_with : goal.range_from-requires-else-starts_with
range_from-requires-else-starts_with c = λ _. subst (λ n. IsCharBoundary c.args.text.now n) (sym c.run_before-run.ensures.value) (stop_boundary c.args.text.now 92 (omega arith))

pub returns-else-starts_with-clause-value : goal.returns-else-starts_with-clause-value
returns-else-starts_with-clause-value c = plain_at c.args.text.now c.range.result.now c.range_from-else-starts_with.result.now c.run_before-run.result c.run_before-run.ensures.value c.range.ensures.value c.range_from-else-starts_with.ensures.value
