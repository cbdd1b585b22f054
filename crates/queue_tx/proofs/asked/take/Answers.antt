use Rattle.std.proofs.Common.{Option, None, sym, subst}
use Rattle.std.specs.Option.{option_map}
use Rattle.queue_tx.specs.declared.asked.Asked.{Asked}
use Rattle.queue_tx.specs.declared.kept.Here.{Here}
use Rattle.queue_tx.specs.Asked.{SetsPlaces}
use Rattle.queue_tx.proofs.AskedJobs.{taken}
use Rattle.queue_tx.proofs.asked.take.Goals as goal

pub returns-in-Some : goal.returns-in-Some
returns-in-Some c =
    subst (λ (o : Option (Asked × Here)). SetsPlaces None (option_map (λ (e : Asked × Here). e.0) o) c.args.places.now c.put.new.self) (sym c.in-Some.is)
    (taken c.in-Some.entry.0 c.in-Some.entry.1 c.args.places.now c.put.new.self c.put.ensures.entries)
