-- The plain text so far, and what the bytes that are left begin with.
use Rattle.std.proofs.Common.{◌≡◌, ◌+◌, ◌-◌, ◌≤◌, length, drop}
use Rattle.line_text.specs.References.{stretch_length}
use Rattle.line_text.proofs.reference.stretch_length.Given as goal

abbrev pub invariant-loop-at : goal.invariant-loop-at
invariant-loop-at l = (stretch_length l.bytes ≡ l.at + stretch_length (drop l.at l.bytes)) × (l.at ≤ length l.bytes)

abbrev pub decreases-loop-at : goal.decreases-loop-at
decreases-loop-at l = length l.bytes - l.at
