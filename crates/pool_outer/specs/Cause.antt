-- When a part of the outside may answer that it failed.
use Rattle.std.specs.Prelude.{ℕ, ◌+◌, ◌-◌, ◌^◌, ◌≤◌, min, Result, IsOk, IsErrOf, ◌≡◌}

-- a count of faults has risen by at least n, or stands at the end of its type
abbrev pub RoseBy : ℕ → ℕ → ℕ → Type 0
RoseBy n before now = min (before + n) (2 ^ 64 - 1) ≤ now

-- a count of faults has risen
abbrev pub Rose : ℕ → ℕ → Type 0
Rose before now = RoseBy 1 before now

-- The count never falls, the call answers that it failed only where the count rose, and a call that
-- is answered by Ok leaves it.
pub record HasCause {T E : Type 0}
    (failed : E) (before now : ℕ) (result : Result T E) : Type 0 where
  pub later : before ≤ now
  pub rose : IsErrOf result failed → Rose before now
  pub quiet : IsOk result → now ≡ before
