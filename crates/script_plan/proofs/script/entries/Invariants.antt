-- The entries are what the lines so far say.
use Rattle.std.proofs.Common.{take}
use Rattle.script_plan.specs.Scripts.{AreSaid}
use Rattle.script_plan.proofs.script.entries.Given as goal

abbrev pub invariant-loop-line : goal.invariant-loop-line
invariant-loop-line l = AreSaid l.machines (take l.line-index l.lines) l.entries.items
