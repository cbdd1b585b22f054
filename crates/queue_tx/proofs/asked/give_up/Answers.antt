use Rattle.std.proofs.Common.{Option, None, sym, subst}
use Rattle.queue_tx.specs.declared.asked.Asked.{Asked}
use Rattle.queue_tx.specs.Asked.{SetsPlaces}
use Rattle.queue_tx.proofs.AskedJobs.{given_up}
use Rattle.queue_tx.proofs.asked.give_up.Goals as goal

pub returns-in-Some : goal.returns-in-Some
returns-in-Some c =
    subst (λ (o : Option Asked). SetsPlaces o None c.args.places.now c.remove.new.self) (sym c.in-Some.is)
    (given_up c.in-Some.asked c.args.places.now c.remove.new.self c.remove.ensures.sorted c.remove.ensures.entries)
