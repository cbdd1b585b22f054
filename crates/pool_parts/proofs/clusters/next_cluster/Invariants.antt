-- The number is so many later, and all before it are used.
use Rattle.std.proofs.Common.{◌≡◌}
use Rattle.pool_parts.specs.Clusters.{clusters_on, first_cluster, is_used}
use Rattle.pool_parts.proofs.InClusters.{AreUsed}
use Rattle.pool_parts.proofs.clusters.next_cluster.Given as goal

abbrev pub invariant-clusters : goal.invariant-clusters
invariant-clusters l = (l.cluster ≡ clusters_on l.counter (first_cluster l.queue))
    × AreUsed (is_used l.queue l.finished) (first_cluster l.queue) l.counter
