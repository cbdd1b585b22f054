use Rattle.std.proofs.Common.{◌≡◌, ◌++◌, map, length}
use Rattle.queue_tx.specs.Prepared.{change_of}
use Rattle.queue_tx.specs.Roomy.{LeaveRoom}
use Rattle.queue_tx.proofs.prepared.Prepared.of.Given as goal

abbrev pub invariant-ads : goal.invariant-ads
invariant-ads l = record {
  all : map change_of l.changes.items ++ l.ads.entries ≡ l.fn.ads.entries;
  room : LeaveRoom l.ads.entries;
}

abbrev pub decreases-ads : goal.decreases-ads
decreases-ads l = length l.ads.entries
