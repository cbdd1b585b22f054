use Rattle.std.proofs.Common.{map}
use Rattle.ad_value.specs.Content.{content, text}
use Rattle.ad_func.specs.Texts.{from_string, text_of_all}
use Rattle.ad_func.proofs.ArgumentLemmas.{by_arguments}
use Rattle.ad_func.proofs.texts.strcat.Goals as goal

pub returns-in-Ok : goal.returns-in-Ok
returns-in-Ok c = by_arguments _ _ _ ((c.in-Ok.ensures (from_string text (text_of_all (map content c.args.values.now)))).1) c.joined_value.ensures
