-- Within which ranges the numbers of a configuration are.
use Rattle.std.specs.Prelude.{◌≤◌, ℕ, All}
use Rattle.ad_value.specs.declared.user_number.UserNumber.{UserNumber}
use Rattle.pool_config.specs.declared.value.TheConstants.{MAX_SECONDS, MAX_CEILING, MAX_FACTOR}
use Rattle.pool_config.specs.declared.setting_word.Interval.{Interval}
use Rattle.pool_config.specs.Configuration.{Configuration}
use Rattle.pool_config.specs.Keys.{least_seconds}
use Rattle.pool_config.specs.Laws.{seconds_of}

abbrev pub IsBetween : ℕ → ℕ → ℕ → Type 0
IsBetween least most n = (least ≤ n) × (n ≤ most)

-- each time is as long as it must be at least, and no longer than any may be
abbrev pub HasSeconds : Configuration → Type 0
HasSeconds c = (i : Interval) → IsBetween (least_seconds i) MAX_SECONDS (seconds_of i c)

abbrev pub IsCeiling : UserNumber → Type 0
IsCeiling u = u.number ≤ MAX_CEILING

abbrev pub IsFactor : UserNumber → Type 0
IsFactor u = IsBetween 1 MAX_FACTOR u.number

-- each user's number of slots and factor is one that a user may have
pub record HasUsers (c : Configuration) : Type 0 where
  pub ceilings : All IsCeiling c.ceiling
  pub factors : All IsFactor c.prio_factor
