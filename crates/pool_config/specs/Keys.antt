-- What can be set.
use Rattle.std.specs.Prelude.{ℕ, Bool, true, false, List}
use Rattle.pool_config.specs.declared.key.Key.{Key}
use Rattle.pool_config.specs.declared.key.Key.TheVariants as key
use Rattle.pool_config.specs.declared.setting_word.Interval.{Interval}
use Rattle.pool_config.specs.declared.setting_word.Interval.TheVariants as interval
use Rattle.pool_config.specs.declared.setting_word.PoolWord.{PoolWord}
use Rattle.pool_config.specs.declared.setting_word.SlotWord.{SlotWord}

-- how short a time may be
abbrev pub least_seconds : Interval → ℕ
least_seconds interval.MaxJobRetirementTime = 0
least_seconds interval.MachineMaxVacateTime = 0
least_seconds _ = 1

pub data Sets : Type 0 where
  of_pool : PoolWord → Sets
  -- how many slots a user may have, and the factor of a user's priority
  ceiling : List ℕ → Sets
  prio_factor : List ℕ → Sets
  of_slots : SlotWord → Sets
  attribute : List ℕ → Sets

-- what the program keeps of it
abbrev pub sets_of : Key → Sets
sets_of (key.Pool w) = of_pool w
sets_of (key.Ceiling u) = ceiling u.now
sets_of (key.PrioFactor u) = prio_factor u.now
sets_of (key.Slots w) = of_slots w
sets_of (key.Attribute x) = attribute x.now

-- it sets what a machine's slots have
abbrev pub is_of_machine : Sets → Bool
is_of_machine (of_slots w) = true
is_of_machine (attribute x) = true
is_of_machine _ = false
