-- What the ticks do, in the words of the subject.
use Rattle.std.specs.Prelude.{◌≡◌, ◌≤◌, ℕ, ◌+◌, ◌*◌, max}
use Rattle.matchmaker.specs.declared.priority.TheConstants.{SLOT, BEST}
use Rattle.matchmaker.specs.Priority.{after_tick, priority_after}

-- whoever uses more than the priority says gets a worse one at each tick, up to the use
abbrev pub RisesToUse : Type 0
RisesToUse = (in_use real : ℕ) → BEST ≤ real → real ≤ SLOT * in_use
    → (real ≤ after_tick in_use real) × (after_tick in_use real ≤ max BEST (SLOT * in_use))

-- whoever uses less gets a better one, down to the use, and to the best at most
abbrev pub FallsToUse : Type 0
FallsToUse = (in_use real : ℕ) → BEST ≤ real → SLOT * in_use ≤ real
    → (after_tick in_use real ≤ real) × (max BEST (SLOT * in_use) ≤ after_tick in_use real)

-- ticks that pass at once are those that pass one after the other
abbrev pub TicksAddUp : Type 0
TicksAddUp = (more ticks in_use real : ℕ)
    → priority_after (ticks + more) in_use real
    ≡ priority_after more in_use (priority_after ticks in_use real)
