use Rattle.std.proofs.Common.{rules, ◌≡◌, Option, None, subst, sym}
use Rattle.std.specs.Option.{option_copied}
use Rattle.queue_tx.specs.declared.key.Key.{Key}
use Rattle.queue_tx.specs.Jobs.{FirstKey, IsJobOf}
use Rattle.queue_tx.specs.Kept.{AreKinds}
use Rattle.queue_tx.proofs.KeptJobs.{first_found, none_found}
use Rattle.queue_tx.proofs.queue.Queue.first_of_kind.Goals as goal

pub returns : goal.returns
returns c =
    let are : AreKinds c.self.inside.kinds c.args.self.now = subst (AreKinds c.self.inside.kinds) c.self.view_is c.self.invariant.0 in
    first_found c.self.inside.kinds c.args.self.now c.args.kind c.args.start c.of.result.now (c.in_ok-entry.entry.0.now, c.in_ok-entry.entry.1.now) are c.of.ensures c.in_ok-entry.ensures.sorted c.in_ok-entry.ensures.first

pub returns-in_err-entry : goal.returns-in_err-entry
returns-in_err-entry c =
    let are : AreKinds c.self.inside.kinds c.args.self.now = subst (AreKinds c.self.inside.kinds) c.self.view_is c.self.invariant.0 in
    let none : option_copied c.from_residual.result ≡ None = search rules in
    subst (λ (o : Option Key). FirstKey (IsJobOf c.args.kind c.args.self.now) c.args.start o) (sym none)
    (none_found c.self.inside.kinds c.args.self.now c.args.kind c.args.start c.of.result.now are c.of.ensures c.in_err-entry.ensures.first)
