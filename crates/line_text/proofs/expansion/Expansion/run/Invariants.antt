-- The expansion is sound, and of the same text over the same table.
use Rattle.std.proofs.Common.{◌≡◌}
use Rattle.line_text.specs.UnderWay.{IsSound, work_left}
use Rattle.line_text.proofs.expansion.Expansion.run.Given as goal

abbrev pub invariant-loop-current : goal.invariant-loop-current
invariant-loop-current l = IsSound l.self × (l.self.given.now ≡ l.fn.self.given.now) × (l.self.table.now ≡ l.fn.self.table.now)

abbrev pub decreases-loop-current : goal.decreases-loop-current
decreases-loop-current l = work_left l.self
