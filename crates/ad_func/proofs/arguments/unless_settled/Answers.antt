-- A kind is among the contents where it is among the values.
use Rattle.std.proofs.Common.{sym, ◌∙◌}
use Rattle.ad_func.proofs.ArgumentLemmas.{error_first, then_undefined}
use Rattle.ad_func.proofs.arguments.unless_settled.Goals as goal

pub returns-then-has_error : goal.returns-then-has_error
returns-then-has_error g c = λ v. error_first c.args.values.now v (sym c.has_error.ensures ∙ c.if-has_error.true)

pub returns-then-has_undefined : goal.returns-then-has_undefined
returns-then-has_undefined g c = λ v.
    then_undefined c.args.values.now v (sym c.has_error.ensures ∙ c.if-has_error.false) (sym c.has_undefined.ensures ∙ c.if-has_undefined.true)
