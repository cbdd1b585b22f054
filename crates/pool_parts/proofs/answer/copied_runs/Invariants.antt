-- The copy so far is a prefix of the list.
use Rattle.std.proofs.Common.{◌≡◌, take}
use Rattle.pool_parts.proofs.answer.copied_runs.Given as goal

abbrev pub invariant-loop-run : goal.invariant-loop-run
invariant-loop-run l = l.copied ≡ take l.run-index l.runs
