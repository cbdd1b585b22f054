use Rattle.std.proofs.Common.{◌∙◌, sym, ap, subst}
use Rattle.std.specs.Prelude.{IfSome}
use Rattle.receipt_roll.specs.Values.{RollMark}
use Rattle.pool_cases.specs.Marks.{IsMarked, RollMarks}
use Rattle.pool_cases.proofs.Marked.{marked_set}
use Rattle.pool_cases.proofs.rolls.Rolls.put_back.Goals as goal

pub invariant_of-self : goal.invariant_of-self
invariant_of-self c =
    let log : RollMarks → RollMark = λ m. m.log in
    let marked = subst (λ r. IfSome r (IsMarked c.args.self.now.log)) c.in-Some.is c.requires in
    marked_set _ _ c.number-place.result _ c.self.invariant (marked ∙ sym (ap log c.self.view_is))

pub invariant_of-self-in-Some-get_mut-2 : goal.invariant_of-self-in-Some-get_mut-2
invariant_of-self-in-Some-get_mut-2 c =
    let log : RollMarks → RollMark = λ m. m.log in
    let marked = subst (λ r. IfSome r (IsMarked c.args.self.now.log)) c.in-Some.is c.requires in
    marked_set _ _ c.number-place.result _ c.self.invariant (marked ∙ sym (ap log c.self.view_is))
