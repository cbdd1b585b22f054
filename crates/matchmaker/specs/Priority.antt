-- How a user's priority follows what the user has in use (HTCondor manual, User Priorities).
use Rattle.std.specs.Prelude.{ℕ, suc, zero, ◌+◌, ◌*◌, ◌/◌, max}
use Rattle.matchmaker.specs.declared.priority.TheConstants.{KEPT, TAKEN, PARTS, SLOT, BEST}

-- one tick: of PARTS parts KEPT are of the old priority, and TAKEN of what is in use
abbrev pub after_tick : ℕ → ℕ → ℕ
after_tick in_use real = max BEST ((KEPT * real + TAKEN * SLOT * in_use) / PARTS)

-- so many ticks, one after the other
abbrev pub priority_after : ℕ → ℕ → ℕ → ℕ
priority_after zero in_use real = real
priority_after (suc ticks) in_use real = priority_after ticks in_use (after_tick in_use real)
