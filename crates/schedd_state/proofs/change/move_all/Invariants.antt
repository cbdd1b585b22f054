-- What has moved, with what is left, is all of it, and there is room for one more.
use Rattle.std.proofs.Common.{◌≡◌, ◌<◌, ◌+◌, ◌++◌, length, vec_capacity, vec_len}
use Rattle.std.specs.Vec.Iter.{into_iter_items}
use Rattle.schedd_state.proofs.change.move_all.Given as goal

abbrev pub invariant-loop-item : goal.invariant-loop-item
invariant-loop-item g l = record {
  list : l.list.items ++ into_iter_items l.item-iterator ≡ l.fn.items.items;
  room : vec_len l.list + length (into_iter_items l.item-iterator) < vec_capacity l.list;
}
