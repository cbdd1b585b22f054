-- With what is live of those that are left, these are what is live.
use Rattle.std.proofs.Common.{drop}
use Rattle.pool_core.proofs.LiveOnes.{AreSoFar}
use Rattle.pool_core.proofs.events.live_matches.Given as goal

abbrev pub invariant-loop-found : goal.invariant-loop-found
invariant-loop-found l = AreSoFar l.state l.reading l.list l.judged (drop l.found-index l.list) l.left l.live
