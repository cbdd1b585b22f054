-- Events by which a pool becomes something at once.
use Rattle.std.specs.Prelude.{◌≡◌}
use Rattle.pool_parts.specs.declared.answer.Stepped.{Stepped}
use Rattle.pool_state.specs.declared.state.PoolState.{PoolState}
use Rattle.pool_rules.specs.Happens.{IsDone}

-- the pool becomes that, and nothing is asked for
abbrev pub IsMade : PoolState → PoolState → Stepped → Type 0
IsMade made new r = (new ≡ made) × IsDone r
