-- The count says which of the two forms it is.
use Rattle.std.proofs.Common.{◌∙◌, Some, None, arith}
use Rattle.ad_func.proofs.ArgumentLemmas.{last_left_out, last_of_three}
use Rattle.ad_func.proofs.arguments.two_or_three.Goals as goal

pub returns-in-Ok : goal.returns-in-Ok
returns-in-Ok c = λ f. last_left_out f c.args.values.now (omega arith) ∙ c.in-Ok.ensures (λ a b. f a b None)

pub returns-in-Err : goal.returns-in-Err
returns-in-Err c = λ f. last_left_out f c.args.values.now (omega arith) ∙ c.in-Err.ensures (λ a b. f a b None)

pub returns-in-Ok-three : goal.returns-in-Ok-three
returns-in-Ok-three c = λ f. last_of_three f c.args.values.now (omega arith) ∙ c.in-Ok-three.ensures (λ x y z. f x y (Some z))

pub returns-in-Err-three : goal.returns-in-Err-three
returns-in-Err-three c = λ f. last_of_three f c.args.values.now (omega arith) ∙ c.in-Err-three.ensures (λ x y z. f x y (Some z))
