use Rattle.std.proofs.Common.{arith}
use Rattle.ad_value.specs.Content.{content}
use Rattle.ad_func.specs.Arguments.{with_one}
use Rattle.ad_func.proofs.ArgumentLemmas.{settled_is, one_is}
use Rattle.ad_func.proofs.arguments.one.Goals as goal

pub returns : goal.returns
returns c = λ f.
    settled_is _ c.args.values.now _ (with_one f) (λ x. f (content x.now)) (one_is f c.args.values.now c.x-item.result (omega arith) (omega arith) c.x-item.is) c.unless_settled.ensures
