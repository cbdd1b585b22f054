-- The copy so far is a prefix of the list.
use Rattle.std.proofs.Common.{◌≡◌, take}
use Rattle.pool_tables.proofs.copies.copy_numbers.Given as goal

abbrev pub invariant-loop-number : goal.invariant-loop-number
invariant-loop-number l = l.copied.items ≡ take l.number-index l.numbers
