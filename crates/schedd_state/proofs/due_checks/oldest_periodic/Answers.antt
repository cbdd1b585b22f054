use Rattle.std.proofs.Common.{rules, ◌≡◌, None, refl, sym, ◌∙◌, subst}
use Rattle.schedd_state.specs.DueChecks.{OldestPeriodic}
use Rattle.schedd_state.proofs.Oldest.{look_next, none_at_all, none_later, is_oldest, fewer_later}
use Rattle.schedd_state.proofs.due_checks.oldest_periodic.Goals as goal

pub plain-preserved : goal.plain-preserved
plain-preserved c = look_next c.args.looks.now c.args.queue.now c.plain.look c.plain.invariant (sym c.is_periodic.ensures ∙ c.plain-test.true) _ c.in_ok-look-2.look refl c.in_ok-look-2.ensures

pub plain-smaller : goal.plain-smaller
plain-smaller c = let next = c.in_ok-look-2.ensures in fewer_later c.plain.look c.in_ok-look-2.look c.args.looks.now next.past next.is

pub returns-in_err-look : goal.returns-in_err-look
returns-in_err-look c =
    let none : c.from_residual.result ≡ None = search rules in
    subst (OldestPeriodic c.args.queue.now c.args.looks.now) (sym none)
    (none_at_all c.args.looks.now c.args.queue.now c.in_err-look.ensures)

pub returns-in_err-look-2 : goal.returns-in_err-look-2
returns-in_err-look-2 c =
    let none : c.from_residual-in_err-look-2.result ≡ None = search rules in
    subst (OldestPeriodic c.args.queue.now c.args.looks.now) (sym none)
    (none_later c.args.looks.now c.args.queue.now c.plain.look c.plain.invariant (sym c.is_periodic.ensures ∙ c.plain-test.true) c.in_err-look-2.ensures)

pub returns : goal.returns
returns c = is_oldest c.args.looks.now c.args.queue.now c.plain.look c.plain.invariant (sym c.is_periodic.ensures ∙ c.plain-test.false)
