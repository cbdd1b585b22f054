-- All numbers are short where those of the operations that are left are.
use Rattle.std.proofs.Common.{drop, map}
use Rattle.queue_tx.specs.Operations.{operation}
use Rattle.pool_parts.specs.Loggable.{AreShortOps}
use Rattle.pool_parts.proofs.numbers.go_over_ops.Given as goal

abbrev pub invariant-loop-op : goal.invariant-loop-op
invariant-loop-op l = AreShortOps (map operation (drop l.op-index l.ops)) → AreShortOps (map operation l.ops)
