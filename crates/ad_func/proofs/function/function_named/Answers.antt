use Rattle.std.proofs.Common.{◌∙◌, ap}
use Rattle.std.specs.List.{find}
use Rattle.ad_value.specs.Names.{same_name}
use Rattle.ad_func.specs.Function.{function_name}
use Rattle.ad_func.proofs.FunctionLemmas.{named_by_length}
use Rattle.ad_func.proofs.function.function_named.Goals as goal

pub returns : goal.returns
returns c =
    c.named_among.ensures
    ∙ ap (find (λ f. same_name (function_name f) c.args.name.now)) c.functions_of_length.ensures
    ∙ named_by_length c.args.name.now
