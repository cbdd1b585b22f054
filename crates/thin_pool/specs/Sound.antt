-- What holds of every pool, also of the abstract pool that it stands for.
use Rattle.pool_view.specs.Safe.{Safe, RunsLeased, RunsSpent}
use Rattle.thin_pool.specs.PoolValue.{PoolValue, AreNumberedOnce, IsConsistent}
use Rattle.thin_pool.specs.View.{view_of}

pub record IsSound (p : PoolValue) : Type 0 where
  pub consistent : IsConsistent p
  pub slots_once : AreNumberedOnce p.slots
  pub safe : Safe (view_of p)
  -- from these two every allowed step leads to a safe pool again
  pub leased : RunsLeased (view_of p)
  pub spent : RunsSpent (view_of p)
