use Rattle.ad_func.specs.Texts.{stricmp}
use Rattle.ad_func.proofs.ArgumentLemmas.{by_arguments}
use Rattle.ad_func.proofs.texts.stricmp.Goals as goal

pub returns-in-Ok : goal.returns-in-Ok
returns-in-Ok c = by_arguments _ _ _ (c.in-Ok.ensures stricmp) c.compare_values_folded.ensures
