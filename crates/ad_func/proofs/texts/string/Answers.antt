use Rattle.ad_value.specs.Content.{text}
use Rattle.ad_func.specs.Texts.{of_string}
use Rattle.ad_func.proofs.ArgumentLemmas.{by_arguments}
use Rattle.ad_func.proofs.texts.string.Goals as goal

pub returns-in-Ok : goal.returns-in-Ok
returns-in-Ok c = by_arguments _ _ _ (c.in-Ok.ensures (of_string text)) c.string_value.ensures
