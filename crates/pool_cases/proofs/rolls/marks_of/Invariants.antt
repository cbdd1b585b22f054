use Rattle.std.proofs.Common.{◌≡◌, map, take}
use Rattle.pool_cases.specs.Marks.{mark_of}
use Rattle.pool_cases.proofs.rolls.marks_of.Given as goal

abbrev pub invariant-loop-roll : goal.invariant-loop-roll
invariant-loop-roll l = l.marks.items ≡ map mark_of (take l.roll-index l.rolls)
