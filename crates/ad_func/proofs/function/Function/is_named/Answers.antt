use Rattle.std.proofs.Common.{◌∙◌, ap}
use Rattle.ad_value.specs.Names.{lowercase, same_name}
use Rattle.ad_func.proofs.FunctionLemmas.{same_test}
use Rattle.ad_func.proofs.function.Function.is_named.Goals as goal

pub returns : goal.returns
returns c =
    same_test c.eq_ignore_ascii_case.result (lowercase c.name.result.now) (lowercase c.args.name.now) c.eq_ignore_ascii_case.ensures.test
    ∙ ap (λ n. same_name n c.args.name.now) c.name.ensures
