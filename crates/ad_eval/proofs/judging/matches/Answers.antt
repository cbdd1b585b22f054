use Rattle.std.proofs.Common.{◌≡◌, Bool, true, ◌&&◌, Result, Ok, Err, IfOk, ap, sym, ◌∙◌}
use Rattle.ad_eval.specs.Match.{requirements_hold}
use Rattle.ad_eval.proofs.judging.matches.Goals as goal

-- the first holds, and the second is told by the result
both_told : {E : Type 0} (first : Bool) (r : Result Bool E) (a b : Bool) → first ≡ a → first ≡ true → IfOk r (λ second. second ≡ b) → IfOk r (λ both. both ≡ (a && b))
both_told first (Ok second) a b told holds is = is ∙ ap (λ x. x && b) (sym holds ∙ told)
both_told first (Err e) a b told holds is = tt

pub returns-clause-matches : goal.returns-clause-matches
returns-clause-matches g c =
    let job = c.args.job.now in
    let slot = c.args.slot.now in
    both_told c.in_ok-requirements_hold.field-0 c.requirements_hold-2.result (requirements_hold job slot c.args.now) (requirements_hold slot job c.args.now)
    c.in_ok-requirements_hold.ensures c.if-not-branch.false c.requirements_hold-2.ensures
