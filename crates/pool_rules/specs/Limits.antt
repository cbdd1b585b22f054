-- How many bytes of ads a pool may have, after an event too.
use Rattle.std.specs.Prelude.{◌≡◌, ◌⊎◌, ◌<◌, ◌≤◌}
use Rattle.pool_parts.specs.declared.answer.Stepped.{Stepped}
use Rattle.pool_parts.specs.declared.size.TheConstants.{MAX_BYTES}
use Rattle.pool_state.specs.declared.state.PoolState.{PoolState}
use Rattle.pool_tables.specs.declared.refusal.StepError.{StepError}
use Rattle.pool_tables.specs.declared.refusal.StepError.TheVariants as error

-- it has no more than it may
abbrev pub IsWithin : PoolState → Type 0
IsWithin s = s.counts.bytes ≤ MAX_BYTES

-- what an event would make of a pool has more
pub record IsTooLarge (Makes : PoolState → Stepped → Type 0) : Type 0 where
  pub new : PoolState
  pub answer : Stepped
  pub makes : Makes new answer
  pub above : MAX_BYTES < new.counts.bytes

-- why an event that is accepted doesn't happen
abbrev pub IsLimit : StepError → Type 0
IsLimit e = (e ≡ error.Bytes) ⊎ (e ≡ error.Memory)
