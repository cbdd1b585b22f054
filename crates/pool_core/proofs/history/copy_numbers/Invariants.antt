-- The copy so far is a prefix of the list.
use Rattle.std.proofs.Common.{◌≡◌, take}
use Rattle.pool_core.proofs.history.copy_numbers.Given as goal

abbrev pub invariant-loop-number : goal.invariant-loop-number
invariant-loop-number l = l.copied ≡ take l.number-index l.numbers
