use Rattle.std.proofs.Common.{length}
use Rattle.pool_tables.proofs.Counting.{Counted}
use Rattle.pool_tables.proofs.repeats.count_repeats.Given as goal

abbrev pub invariant-numbers : goal.invariant-numbers
invariant-numbers l = Counted l.numbers l.left l.repeats

abbrev pub decreases-numbers : goal.decreases-numbers
decreases-numbers l = length l.left
