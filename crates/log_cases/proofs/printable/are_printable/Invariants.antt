-- All can be printed where those that are left can.
use Rattle.std.proofs.Common.{drop, map}
use Rattle.queue_tx.specs.Operations.{operation}
use Rattle.queue_tx.specs.Printable.{IsPrintable}
use Rattle.log_cases.proofs.printable.are_printable.Given as goal

abbrev pub invariant-loop-op : goal.invariant-loop-op
invariant-loop-op l = IsPrintable (map operation (drop l.op-index l.ops)) → IsPrintable (map operation l.ops)
