-- The items so far, and those of what is left.
use Rattle.std.proofs.Common.{◌≡◌, ◌++◌, length, IsUtf8}
use Rattle.submit_lines.specs.Queue.{items_of}
use Rattle.submit_lines.proofs.items.items_of.Given as goal

abbrev pub invariant-loop-rest : goal.invariant-loop-rest
invariant-loop-rest l = record { left : items_of l.text ≡ l.items ++ items_of l.rest; utf8 : IsUtf8 l.rest }

abbrev pub decreases-loop-rest : goal.decreases-loop-rest
decreases-loop-rest l = length l.rest
