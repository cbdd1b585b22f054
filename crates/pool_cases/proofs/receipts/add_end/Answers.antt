use Rattle.std.proofs.Common.{subst, sym}
use Rattle.pool_rules.specs.Given.{AreOfMachine}
use Rattle.pool_cases.proofs.Given.{end_given}
use Rattle.pool_cases.proofs.receipts.add_end.Goals as goal

pub returns-in-Ok-clause-ends : goal.returns-in-Ok-clause-ends
returns-in-Ok-clause-ends c = λ s has are.
    subst (λ rs. AreOfMachine c.args.machine s rs) (sym c.in-Ok.ensures.ok)
    (end_given c.args.machine c.args.rolls.now s _ c.in_ok-receipt.receipt has
    c.in_ok-receipt.ensures.receipt are)
