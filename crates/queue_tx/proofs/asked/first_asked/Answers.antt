use Rattle.std.proofs.Common.{rules, ◌≡◌, Option, None, ap, sym, ◌∙◌, subst}
use Rattle.std.specs.Option.{option_copied}
use Rattle.queue_tx.specs.declared.key.Key.{Key}
use Rattle.queue_tx.specs.Asked.{is_past_from, IsListed}
use Rattle.queue_tx.specs.Jobs.{FirstKey}
use Rattle.queue_tx.proofs.AskedJobs.{none_listed, first_listed, another_digest}
use Rattle.queue_tx.proofs.asked.first_asked.Goals as goal

pub returns-in_err-asked : goal.returns-in_err-asked
returns-in_err-asked c =
    let none : option_copied c.from_residual.result ≡ None = search rules in
    subst (λ (o : Option Key). FirstKey (IsListed c.args.digest c.args.places.now) c.args.start o) (sym none)
    (none_listed c.args.start c.args.digest c.bound_from.result c.args.places.now
    (λ a. c.bound_from.ensures a ∙ ap (λ l. is_past_from c.args.start l a) c.least_from-least.ensures)
    c.in_err-asked.ensures.first)

pub returns-then-asked-digest : goal.returns-then-asked-digest
returns-then-asked-digest c =
    first_listed c.args.start c.args.digest c.bound_from.result c.args.places.now
    (λ a. c.bound_from.ensures a ∙ ap (λ l. is_past_from c.args.start l a) c.least_from-least.ensures)
    (c.in_ok-asked.asked.now, c.in_ok-asked.field-0-1.now) c.in_ok-asked.ensures.sorted c.in_ok-asked.ensures.first c.if-asked-digest.true

pub returns-else-asked-digest : goal.returns-else-asked-digest
returns-else-asked-digest c =
    another_digest c.args.start c.args.digest c.bound_from.result c.args.places.now
    (λ a. c.bound_from.ensures a ∙ ap (λ l. is_past_from c.args.start l a) c.least_from-least.ensures)
    (c.in_ok-asked.asked.now, c.in_ok-asked.field-0-1.now) c.in_ok-asked.ensures.sorted c.in_ok-asked.ensures.first c.if-asked-digest.false
