use Rattle.std.proofs.Common.{subst, sym}
use Rattle.pool_rules.specs.Given.{AreOfMachine}
use Rattle.pool_cases.proofs.receipts.ends_of.Goals as goal

pub returns-clause-ends : goal.returns-clause-ends
returns-clause-ends c = λ s has.
    c.in_ok-add_ends.ensures.ends s has
    (subst (λ rs. AreOfMachine c.args.machine s rs) (sym c.new-ended.ensures) tt)
