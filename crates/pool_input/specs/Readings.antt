-- The readings of a history.
use Rattle.std.specs.Prelude.{ℕ, ◌≤◌, List, All}
use Rattle.pool_outer.specs.declared.clock.TheConstants.{LAST_READING}
use Rattle.thin_pool.specs.declared.history.Step.{Step}
use Rattle.thin_pool.specs.Events.{reading_of}

-- a number that a clock may read
abbrev pub IsInCalendar : ℕ → Type 0
IsInCalendar t = t ≤ LAST_READING

abbrev pub IsAnyReading : ℕ → Type 0
IsAnyReading t = Unit {0}

abbrev pub AreReadings : List Step → Type 0
AreReadings list = All (λ s. IsInCalendar (reading_of s.event)) list

-- each reading is one that the clock allows
pub record AreRead (allows : ℕ → Type 0) (list : List Step) : Type 0 where
  pub allowed : All (λ s. allows (reading_of s.event)) list
  pub in_range : AreReadings list
