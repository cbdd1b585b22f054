use Rattle.std.proofs.Common.{rules, ◌≡◌, None, sym, ◌∙◌, subst}
use Rattle.schedd_state.specs.DueChecks.{FirstAgain}
use Rattle.schedd_state.proofs.DueFirst.{none_again, not_again}
use Rattle.schedd_state.proofs.due_checks.first_again.Goals as goal

pub returns-in_err-key : goal.returns-in_err-key
returns-in_err-key c =
    let none : c.from_residual.result ≡ None = search rules in
    subst (FirstAgain c.args.queue.now c.args.looks.now c.args.seconds c.args.reading) (sym none)
    (none_again c.args.queue.now c.args.looks.now c.args.seconds c.args.reading c.in_err-key.ensures)

pub returns-then-is_after : goal.returns-then-is_after
returns-then-is_after c = record { at = c.in_ok-key.at; oldest = c.in_ok-key.ensures; due = sym c.is_after.ensures ∙ c.if-is_after.true }

pub returns-else-is_after : goal.returns-else-is_after
returns-else-is_after c =
    not_again c.args.queue.now c.args.looks.now c.args.seconds c.args.reading (c.in_ok-key.key, c.in_ok-key.at) c.in_ok-key.ensures (sym c.is_after.ensures ∙ c.if-is_after.false)
