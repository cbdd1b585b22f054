use Rattle.std.proofs.Common.{◌≡◌, ◌≤◌, ◌-◌}
use Rattle.matchmaker.specs.declared.priority.TheConstants.{BEST, WORST}
use Rattle.matchmaker.specs.Priority.{priority_after}
use Rattle.matchmaker.proofs.priority.priority_after.Given as goal

abbrev pub invariant-ticks : goal.invariant-ticks
invariant-ticks l = (priority_after (l.ticks - l._tick) l.in_use l.now ≡ priority_after l.fn.ticks l.fn.in_use l.fn.real)
    × (BEST ≤ l.now) × (l.now ≤ WORST)
