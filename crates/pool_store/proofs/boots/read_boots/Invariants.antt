-- The lines so far have numbers.
use Rattle.std.proofs.Common.{length}
use Rattle.pool_store.proofs.BootLines.{IsReadUpTo}
use Rattle.pool_store.proofs.boots.read_boots.Given as goal

abbrev pub invariant-loop-text : goal.invariant-loop-text
invariant-loop-text l = IsReadUpTo l.fn.bytes l.rest l.boots l.line

abbrev pub decreases-loop-text : goal.decreases-loop-text
decreases-loop-text l = length l.rest
