-- Why an event is refused.
use Rattle.std.specs.Prelude.{Some, None}
use Rattle.pool_parts.specs.declared.event.Event.{Event}
use Rattle.pool_rules.specs.Happens.{Reacts}
use Rattle.pool_rules.specs.Limits.{IsTooLarge}
use Rattle.pool_rules.specs.Refusals.{IsRefusal}
use Rattle.pool_state.specs.declared.state.PoolState.{PoolState}
use Rattle.pool_tables.specs.declared.refusal.StepError.{StepError}
use Rattle.pool_tables.specs.declared.refusal.StepError.TheVariants as error

-- by Bytes where no cause holds but the pool would have more bytes of ads than it may, and by any
-- other error where that is the first cause that holds
abbrev pub IsRefused : Event → PoolState → StepError → Type 0
IsRefused event s error.Bytes =
    IsRefusal event s None × IsTooLarge (λ new r. Reacts s event r new)
IsRefused event s e = IsRefusal event s (Some e)
