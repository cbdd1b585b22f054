-- The roll's list, with what is left, is what it is to be, and there is room for what is left.
use Rattle.std.proofs.Common.{◌≡◌, ◌≤◌, ◌++◌, length}
use Rattle.std.specs.Vec.Iter.{into_iter_items}
use Rattle.queue_log.proofs.logged.fill.Given as goal

abbrev pub invariant-items : goal.invariant-items
invariant-items l = record {
  list : l.roll.list ++ into_iter_items l.tx-iterator ≡ l.fn.roll.list ++ l.fn.list;
  room : length (into_iter_items l.tx-iterator) ≤ l.roll.spare;
}
