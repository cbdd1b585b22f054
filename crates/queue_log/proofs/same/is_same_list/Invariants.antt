-- Both lists have one length, and the same transactions so far.
use Rattle.std.proofs.Common.{◌≡◌, map, take, length}
use Rattle.queue_log.proofs.same.is_same_list.Given as goal

abbrev pub invariant-loop-i : goal.invariant-loop-i
invariant-loop-i l = (length l.a ≡ length l.b) × (map (λ tx. tx) (take l.i l.a) ≡ map (λ tx. tx) (take l.i l.b))
