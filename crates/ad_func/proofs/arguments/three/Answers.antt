use Rattle.std.proofs.Common.{arith}
use Rattle.ad_value.specs.Content.{content}
use Rattle.ad_func.specs.Arguments.{with_three}
use Rattle.ad_func.proofs.ArgumentLemmas.{settled_is, three_is}
use Rattle.ad_func.proofs.arguments.three.Goals as goal

pub returns : goal.returns
returns c = λ f.
    settled_is _ c.args.values.now _ (with_three f) (λ p. f (content p.0.now) (content p.1.now) (content p.2.now)) (three_is f c.args.values.now c.x-item.result c.y-item.result c.z-item.result (omega arith) (omega arith) c.x-item.is c.y-item.is c.z-item.is) c.unless_settled.ensures
