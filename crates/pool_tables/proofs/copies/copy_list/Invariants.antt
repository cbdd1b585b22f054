-- The copy so far is a prefix of the list.
use Rattle.std.proofs.Common.{◌≡◌, take}
use Rattle.pool_tables.proofs.copies.copy_list.Given as goal

abbrev pub invariant-loop-item : goal.invariant-loop-item
invariant-loop-item g l = l.copied.items ≡ take l.item-index l.list
