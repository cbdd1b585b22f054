-- The operations so far are written.
use Rattle.std.proofs.Common.{◌≡◌, ◌++◌, map, take, None, string_bytes}
use Rattle.queue_tx.specs.Operations.{operation}
use Rattle.queue_record.specs.Texts.{ops_text, first_long}
use Rattle.queue_record.proofs.print.print_ops.Given as goal

abbrev pub invariant-loop-op : goal.invariant-loop-op
invariant-loop-op l = record {
  text : string_bytes l.text ≡ string_bytes l.initial.text ++ ops_text (map operation (take l.op-index l.ops));
  place : l.place ≡ l.op-index;
  fits : first_long (map operation (take l.op-index l.ops)) ≡ None;
}
