-- That few clusters are used.
use Rattle.std.specs.Prelude.{◌≡◌, ℕ, ◌+◌, ◌≤◌, true, List, length}
use Rattle.pool_parts.specs.declared.size.TheConstants.{MAX_BYTES}
use Rattle.pool_parts.specs.Clusters.{is_used}
use Rattle.pool_state.specs.declared.state.PoolState.{PoolState}
use Rattle.pool_view.specs.AbstractPool.{IsIn}

-- The clusters of the queue, and of the jobs that have left it: at most one for each byte that the
-- queue may have had at the opening, and one for each event.
pub record AreFew (s : PoolState) : Type 0 where
  pub clusters : List ℕ
  pub few : length clusters ≤ MAX_BYTES + s.events
  pub all : (cluster : ℕ) → is_used s.queue s.finished cluster ≡ true → IsIn cluster clusters
