-- Both transactions have one length, and the same operations so far.
use Rattle.std.proofs.Common.{◌≡◌, map, take, length}
use Rattle.queue_tx.specs.Operations.{operation}
use Rattle.queue_log.proofs.same.is_same_tx.Given as goal

abbrev pub invariant-loop-i : goal.invariant-loop-i
invariant-loop-i l = (length l.ops ≡ length l.others) × (map operation (take l.i l.ops) ≡ map operation (take l.i l.others))
