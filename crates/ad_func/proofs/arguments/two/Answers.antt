use Rattle.std.proofs.Common.{arith}
use Rattle.ad_value.specs.Content.{content}
use Rattle.ad_func.specs.Arguments.{with_two}
use Rattle.ad_func.proofs.ArgumentLemmas.{settled_is, two_is}
use Rattle.ad_func.proofs.arguments.two.Goals as goal

pub returns : goal.returns
returns c = λ f.
    settled_is _ c.args.values.now _ (with_two f) (λ p. f (content p.0.now) (content p.1.now)) (two_is f c.args.values.now c.x-item.result c.y-item.result (omega arith) (omega arith) c.x-item.is c.y-item.is) c.unless_settled.ensures
