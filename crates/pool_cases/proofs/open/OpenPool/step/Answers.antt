use Rattle.std.proofs.Common.{subst, sym}
use Rattle.std.specs.Prelude.{IfSome}
use Rattle.pool_cases.specs.Marks.{HasMarks, IsMarked}
use Rattle.pool_cases.proofs.Driving.{driven_on}
use Rattle.pool_cases.proofs.Handing.{receipt_marked}
use Rattle.pool_cases.specs.Driven.{IsDriven}
use Rattle.pool_cases.proofs.open.OpenPool.step.Goals as goal

pub put_back-requires : goal.put_back-requires
put_back-requires c =
    let pool = c.self.inside.pool in
    let has = subst (λ m. HasMarks m pool) c.self.view_is c.self.invariant.marks in
    subst (λ r. IfSome r (IsMarked c.self.inside.rolls.log)) (sym c.into_receipt.ensures)
    (receipt_marked c.self.inside.rolls pool c.args.event c.self.invariant.marks (c.requires pool has))

pub invariant_of-self : goal.invariant_of-self
invariant_of-self c =
    let pool = c.step-stepped.new.self in
    subst (λ m. IsDriven m pool) (sym c.put_back.ensures)
    (driven_on c.self.inside.rolls c.self.inside.pool pool c.args.event c.step-stepped.result
    c.step-stepped.ensures.reacts c.step-stepped.ensures.same c.self.invariant)
