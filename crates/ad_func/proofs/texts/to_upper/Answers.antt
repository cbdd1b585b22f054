use Rattle.ad_func.specs.Texts.{of_string, upper}
use Rattle.ad_func.proofs.ArgumentLemmas.{by_arguments}
use Rattle.ad_func.proofs.texts.to_upper.Goals as goal

pub returns-in-Ok : goal.returns-in-Ok
returns-in-Ok c = by_arguments _ _ _ (c.in-Ok.ensures (of_string upper)) c.upper_value.ensures
