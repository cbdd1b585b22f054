use Rattle.std.proofs.Common.{rules, ◌≡◌, ◌∙◌, Option, None, refl, sym, subst}
use Rattle.std.specs.Option.{option_copied}
use Rattle.queue_tx.specs.declared.key.Key.{Key}
use Rattle.queue_tx.specs.Jobs.{FirstKey}
use Rattle.queue_tx.proofs.Asking.{fewer}
use Rattle.queue_tx.proofs.PeriodicJobs.{periodic_is_there}
use Rattle.schedd_state.specs.DueChecks.{IsFresh}
use Rattle.schedd_state.proofs.Fresh.{reached_next, none_left}
use Rattle.schedd_state.proofs.due_checks.first_fresh.Goals as goal

pub looked-preserved : goal.looked-preserved
looked-preserved c =
    reached_next c.args.looks.now c.args.queue.now c.args.start c.looked.key.now c.looked.invariant
    (sym c.has.ensures ∙ c.looked-test.true)
    c.looked.key c.in_ok-key-2.key.now refl c.in_ok-key-2.ensures

pub looked-smaller : goal.looked-smaller
looked-smaller c =
    let next = c.in_ok-key-2.ensures in
    fewer c.looked.key.now c.in_ok-key-2.key.now c.args.queue.now next.past
    (periodic_is_there c.args.queue.now c.in_ok-key-2.key.now next.meant)

pub returns-in_err-key-2 : goal.returns-in_err-key-2
returns-in_err-key-2 c =
    let none : option_copied c.from_residual-in_err-key-2.result ≡ None = search rules in
    subst (λ (o : Option Key). FirstKey (IsFresh c.args.queue.now c.args.looks.now) c.args.start o) (sym none)
    (none_left c.args.looks.now c.args.queue.now c.args.start c.looked.key.now c.looked.invariant
    (sym c.has.ensures ∙ c.looked-test.true)
    c.looked.key refl c.in_err-key-2.ensures)
