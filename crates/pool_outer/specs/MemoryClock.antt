-- A clock in memory.
use Rattle.std.specs.Prelude.{◌≡◌, ℕ, ◌+◌, ◌-◌, ◌*◌, List, length, min, slice_index}
use Rattle.pool_outer.specs.declared.clock.TheConstants.{LAST_READING}

-- reading number n: that of the list, or after its end the last one and a step for each further
-- reading
abbrev pub nth_reading : List ℕ → ℕ → ℕ → ℕ
nth_reading readings step n =
    let last : ℕ = length readings - 1 in
    min (slice_index readings (min n last) + step * (n - last)) LAST_READING

-- one of those readings
pub record IsReading (readings : List ℕ) (step reading : ℕ) : Type 0 where
  pub number : ℕ
  pub reads : reading ≡ nth_reading readings step number
