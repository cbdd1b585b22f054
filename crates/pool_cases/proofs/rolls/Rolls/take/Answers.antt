use Rattle.std.proofs.Common.{refl, sym, ap, subst}
use Rattle.std.proofs.lemmas.Option.{slice_get_read}
use Rattle.std.specs.Prelude.{IfSome}
use Rattle.receipt_roll.specs.Values.{RollMark}
use Rattle.pool_cases.specs.Marks.{IsMarked, RollMarks}
use Rattle.pool_cases.proofs.Marked.{marked_at, marked_set}
use Rattle.pool_cases.proofs.rolls.Rolls.take.Goals as goal

pub invariant_of-self-2 : goal.invariant_of-self-2
invariant_of-self-2 c =
    marked_set _ _ c.args.number _ c.self.invariant
    (subst (λ r. IfSome r (IsMarked c.self.inside.log.mark)) (sym c.take.ensures.after) tt)

pub returns-clause-receipt : goal.returns-clause-receipt
returns-clause-receipt c =
    let log : RollMarks → RollMark = λ m. m.log in
    let rs = c.self.inside.receipts in
    let at = slice_get_read rs.items rs.len c.args.number c.in_ok-place.place.now rs.ok.0
    (c.in_ok-place.ensures.variant.0 refl) c.in_ok-place.ensures.value in
    let kept = marked_at _ _ c.args.number c.in_ok-place.place.now c.self.invariant at in
    subst (λ r. IfSome r (IsMarked c.args.self.now.log)) (sym c.take.ensures.value)
    (subst (λ mark. IfSome c.in_ok-place.place.now (IsMarked mark)) (ap log c.self.view_is) kept)
