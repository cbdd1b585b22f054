-- The size so far, with the ads above the last key, is the size of all.
use Rattle.std.proofs.Common.{◌≡◌, ◌+◌, ◌≤◌, min, length}
use Rattle.std.specs.Option.{option_copied}
use Rattle.pool_parts.specs.Sizes.{queue_count}
use Rattle.pool_parts.proofs.Walks.{rest_of}
use Rattle.pool_parts.proofs.queue.queue_size.Given as goal

abbrev pub invariant-ads : goal.invariant-ads
invariant-ads l = (min (l.size + queue_count (rest_of (option_copied l.last) l.queue)) 18446744073709551615
    ≡ min (queue_count l.queue) 18446744073709551615)
    × (l.size ≤ 18446744073709551615)

abbrev pub decreases-ads : goal.decreases-ads
decreases-ads l = length (rest_of (option_copied l.last) l.queue)
