use Rattle.ad_func.specs.Texts.{strcmp}
use Rattle.ad_func.proofs.ArgumentLemmas.{by_arguments}
use Rattle.ad_func.proofs.texts.strcmp.Goals as goal

pub returns-in-Ok : goal.returns-in-Ok
returns-in-Ok c = by_arguments _ _ _ (c.in-Ok.ensures strcmp) c.compare_values.ensures
