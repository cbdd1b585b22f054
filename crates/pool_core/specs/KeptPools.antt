-- What always holds of a pool.
use Rattle.pool_parts.specs.Loggable.{IsLoggableQueue}
use Rattle.pool_view.specs.Protocol.{Protocol}
use Rattle.pool_rules.specs.Limits.{IsWithin}
use Rattle.pool_rules.specs.Counted.{HasFewJobs, IsCounted}
use Rattle.pool_rules.specs.Few.{AreFew}
use Rattle.pool_rules.specs.Kept.{IsKept}
use Rattle.pool_rules.specs.Unfinished.{CanFinish}
use Rattle.pool_state.specs.declared.state.PoolState.{PoolState}

-- It is kept to a protocol of its daemons, few clusters are used, its jobs and ads are counted, it
-- has no more jobs and no more bytes of ads than it may, and what is unfinished can be logged.
pub record IsKeptPool (s : PoolState) : Type 0 where
  pub protocol : Protocol
  pub kept : IsKept protocol s
  pub few : AreFew s
  pub counted : IsCounted s
  pub few_jobs : HasFewJobs s
  pub within : IsWithin s
  pub loggable : IsLoggableQueue s.queue
  pub finishes : CanFinish s
