use Rattle.std.proofs.Common.{subst}
use Rattle.std.specs.Option.{option_copied}
use Rattle.queue_tx.specs.Asked.{ArePlaces, IsListed, IsAskedBy}
use Rattle.queue_tx.proofs.AskedJobs.{first_along, asked_by, listed_by}
use Rattle.queue_tx.proofs.queue.Queue.first_listed.Goals as goal

pub returns-clause-first : goal.returns-clause-first
returns-clause-first c =
    let are : ArePlaces c.self.inside.asked c.args.self.now = subst (ArePlaces c.self.inside.asked) c.self.view_is c.self.invariant.1 in
    first_along (IsListed c.args.digest c.self.inside.asked) (IsAskedBy c.args.digest c.args.self.now)
    (asked_by c.args.self.now c.self.inside.asked c.args.digest are) (listed_by c.args.self.now c.self.inside.asked c.args.digest are)
    c.args.start (option_copied c.first_asked.result) c.first_asked.ensures
