use Rattle.std.proofs.Common.{◌≡◌}
use Rattle.pool_cases.specs.Marks.{HasMarks}
use Rattle.pool_rules.specs.Given.{AreOfMachine}
use Rattle.pool_state.specs.declared.state.PoolState.{PoolState}
use Rattle.pool_cases.proofs.receipts.add_ends.Given as goal

abbrev pub invariant-loop : goal.invariant-loop
invariant-loop l = (l.rolls ≡ l.initial.rolls)
    × ((s : PoolState) → HasMarks l.initial.rolls s
    → AreOfMachine l.machine s l.initial.ended → AreOfMachine l.machine s l.ended)
