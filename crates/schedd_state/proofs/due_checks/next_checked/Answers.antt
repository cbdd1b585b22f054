use Rattle.std.proofs.Common.{rules, ◌≡◌, None, sym, ◌∙◌, subst}
use Rattle.schedd_state.specs.DueChecks.{NextChecked}
use Rattle.schedd_state.proofs.Passing.{next_of, far_without, far_at}
use Rattle.schedd_state.proofs.due_checks.next_checked.Goals as goal

pub returns-in_err-key : goal.returns-in_err-key
returns-in_err-key c =
    let none : c.from_residual.result ≡ None = search rules in
    subst (NextChecked c.args.queue.now c.args.looks.now c.args.passed) (sym none)
    (far_without c.args.queue.now c.args.looks.now c.args.passed c.above.result c.above.ensures c.in_err-key.ensures)

pub returns-then-has : goal.returns-then-has
returns-then-has c = (
  next_of c.args.queue.now c.args.looks.now c.args.passed c.above.result c.above.ensures c.in_ok-key.key.now c.in_ok-key.ensures,
  sym c.has.ensures ∙ c.if-has.true,
)

pub returns-else-has : goal.returns-else-has
returns-else-has c =
    far_at c.args.queue.now c.args.looks.now c.args.passed c.above.result c.above.ensures c.in_ok-key.key.now c.in_ok-key.ensures (sym c.has.ensures ∙ c.if-has.false)
