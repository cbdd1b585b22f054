-- What is left to do leads from the changes so far to what all operations lead to.
use Rattle.std.proofs.Common.{◌≡◌, map, drop}
use Rattle.std.specs.List.Sorted.{IsStrictlySortedBy}
use Rattle.std.specs.Map.{keys_of}
use Rattle.queue_tx.specs.Keys.{key_cmp}
use Rattle.queue_tx.specs.Operations.{operation}
use Rattle.queue_tx.specs.Queues.{after_ops, with_changes}
use Rattle.queue_tx.specs.Roomy.{LeaveRoom}
use Rattle.queue_tx.proofs.prepared.changes_of.Given as goal

abbrev pub invariant-ops : goal.invariant-ops
invariant-ops l = record {
  ordered : IsStrictlySortedBy key_cmp (keys_of l.changes.entries);
  room : LeaveRoom l.changes.entries;
  rest : after_ops l.place (with_changes l.queue l.changes.entries) (map operation (drop l.place l.ops)) ≡ after_ops 0 l.queue (map operation l.ops);
}
