use Rattle.std.proofs.Common.{◌+◌, length}
use Rattle.auto_cluster.proofs.Reaches.{AsFar}
use Rattle.auto_cluster.proofs.reaching.reached_names.Given as goal

abbrev pub invariant-loop-name : goal.invariant-loop-name
invariant-loop-name l = AsFar l.fn.list.items l.list.items l.reached.items l.pending.items

-- each turn follows a name, and each link is followed once
abbrev pub decreases-loop-name : goal.decreases-loop-name
decreases-loop-name l = length l.pending.items + length l.list.items
