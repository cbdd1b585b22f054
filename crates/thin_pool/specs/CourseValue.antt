use Rattle.std.specs.Prelude.{List}
use Rattle.thin_pool.specs.declared.history.Step.{Step}
use Rattle.thin_pool.specs.PoolValue.{PoolValue}

-- a pool as it was opened, what happened to it, and the pool as it is
pub record CourseValue : Type 0 where
  pub opening : PoolValue
  pub list : List Step
  pub pool : PoolValue
