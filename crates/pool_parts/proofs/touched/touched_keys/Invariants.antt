-- The keys so far, and those of the operations that are left, are those of all.
use Rattle.std.proofs.Common.{◌≡◌, ◌||◌, map, drop}
use Rattle.pool_parts.specs.Growth.{is_among, is_touched}
use Rattle.pool_parts.specs.Noted.{AreNoted}
use Rattle.queue_tx.specs.declared.key.Key.{Key}
use Rattle.queue_tx.specs.Operations.{operation}
use Rattle.pool_parts.proofs.touched.touched_keys.Given as goal

abbrev pub invariant-loop-op : goal.invariant-loop-op
invariant-loop-op l = record {
  noted : AreNoted l.noted;
  touched : (key : Key) → (is_among key l.noted.keys.items || is_touched key (map operation (drop l.op-index l.ops))) ≡ is_touched key (map operation l.ops);
}
