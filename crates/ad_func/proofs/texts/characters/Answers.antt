-- The chain gives the characters from the start on, up to the end.
use Rattle.std.proofs.Common.{◌∙◌, ◌-◌}
use Rattle.std.proofs.lemmas.Iterator.{text_from_collect, YieldsList-from_chars, YieldsList-from_take}
use Rattle.std.proofs.lemmas.Iterator.Consumers.{YieldsList-at}
use Rattle.std.proofs.lemmas.Iterator.Adapters.{YieldsList-from_skip}
use Rattle.ad_func.proofs.texts.characters.Goals as goal

pub returns : goal.returns
returns c =
    text_from_collect _ c.collect.ensures.ran (YieldsList-from_take (c.args.end - c.args.start) (YieldsList-at c.take.ensures.source (YieldsList-from_skip c.args.start (YieldsList-at c.skip.ensures.source (YieldsList-from_chars c.args.text.now c.utf8.text c.chars.ensures.rest)) c.skip.ensures.count)) (c.take.ensures.count ∙ c.saturating_sub-length.ensures))
