use Rattle.std.proofs.Common.{◌≡◌, map, take}
use Rattle.queue_tx.specs.Operations.{operation}
use Rattle.queue_tx.proofs.tx.TxCopied.copy.Given as goal

abbrev pub invariant-loop-op : goal.invariant-loop-op
invariant-loop-op l = map operation l.ops.items ≡ map operation (take l.op-index l.op-items)
