use Rattle.std.proofs.Common.{take}
use Rattle.matchmaker.proofs.Openings.{KeyedSoFar}
use Rattle.matchmaker.proofs.opening.all_keyed.Given as goal

abbrev pub invariant-loop-request : goal.invariant-loop-request
invariant-loop-request l = KeyedSoFar l.now l.list.items (take l.request-index l.requests)
