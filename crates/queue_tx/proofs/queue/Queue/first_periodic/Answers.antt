use Rattle.std.proofs.Common.{rules, ◌≡◌, Option, None, subst, sym}
use Rattle.std.specs.Option.{option_copied}
use Rattle.queue_tx.specs.declared.key.Key.{Key}
use Rattle.queue_tx.specs.Jobs.{FirstKey}
use Rattle.queue_tx.specs.Periodic.{ArePeriodic, IsPeriodic}
use Rattle.queue_tx.proofs.PeriodicJobs.{first_of_them, none_of_them}
use Rattle.queue_tx.proofs.queue.Queue.first_periodic.Goals as goal

pub returns : goal.returns
returns c =
    let are : ArePeriodic c.self.inside.periodic c.args.self.now = subst (ArePeriodic c.self.inside.periodic) c.self.view_is c.self.invariant.3 in
    first_of_them c.args.self.now c.args.start c.self.inside.periodic are (c.in_ok-entry.entry.0.now, c.in_ok-entry.entry.1.now) c.in_ok-entry.ensures.sorted c.in_ok-entry.ensures.first

pub returns-in_err-entry : goal.returns-in_err-entry
returns-in_err-entry c =
    let are : ArePeriodic c.self.inside.periodic c.args.self.now = subst (ArePeriodic c.self.inside.periodic) c.self.view_is c.self.invariant.3 in
    let none : option_copied c.from_residual.result ≡ None = search rules in
    subst (λ (o : Option Key). FirstKey (IsPeriodic c.args.self.now) c.args.start o) (sym none)
    (none_of_them c.args.self.now c.args.start c.self.inside.periodic are c.in_err-entry.ensures.first)
