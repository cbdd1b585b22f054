-- The count says which of the two forms it is.
use Rattle.std.proofs.Common.{◌∙◌, Some, None, arith}
use Rattle.ad_func.proofs.ArgumentLemmas.{last_of_one, last_of_two}
use Rattle.ad_func.proofs.arguments.one_or_two.Goals as goal

pub returns-in-Ok : goal.returns-in-Ok
returns-in-Ok c = λ f. last_of_one f c.args.values.now (omega arith) ∙ c.in-Ok.ensures (λ a. f a None)

pub returns-in-Err : goal.returns-in-Err
returns-in-Err c = λ f. last_of_one f c.args.values.now (omega arith) ∙ c.in-Err.ensures (λ a. f a None)

pub returns-in-Ok-two : goal.returns-in-Ok-two
returns-in-Ok-two c = λ f. last_of_two f c.args.values.now (omega arith) ∙ c.in-Ok-two.ensures (λ a b. f a (Some b))

pub returns-in-Err-two : goal.returns-in-Err-two
returns-in-Err-two c = λ f. last_of_two f c.args.values.now (omega arith) ∙ c.in-Err-two.ensures (λ a b. f a (Some b))
