-- The operations are the others where those that are left are the others that are left.
use Rattle.std.proofs.Common.{◌≡◌, ◌↔◌, drop, map}
use Rattle.queue_tx.specs.Operations.{operation}
use Rattle.pool_parts.proofs.same.are_same_ops.Given as goal

abbrev pub invariant-loop-other : goal.invariant-loop-other
invariant-loop-other l = (map operation l.ops ≡ map operation l.others)
    ↔ (map operation l.left ≡ map operation (drop l.other-index l.others))
