use Rattle.std.proofs.Common.{◌≡◌, map}
use Rattle.std.specs.Vec.Iter.{into_iter_items}
use Rattle.queue_tx.specs.Prepared.{change_of}
use Rattle.queue_tx.specs.Queues.{with_changes}
use Rattle.queue_tx.proofs.queue.Queue.commit.Given as goal

abbrev pub invariant-changes : goal.invariant-changes
invariant-changes l = with_changes l.self (map change_of (into_iter_items l.change-iterator)) ≡ with_changes l.fn.self l.fn.prepared
