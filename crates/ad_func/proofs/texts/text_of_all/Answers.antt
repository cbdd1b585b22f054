use Rattle.std.proofs.Common.{rules, string_bytes}
use Rattle.ad_func.proofs.TextLemmas.{all_joined, none_joined, one_more_joined}
use Rattle.ad_func.proofs.texts.text_of_all.Goals as goal

pub returns : goal.returns
returns c = all_joined c.args.values.now (string_bytes c.loop-value.text) c.loop-value.value-index c.loop-value.invariant c.loop-value-test.false

pub returns-in-None : goal.returns-in-None
returns-in-None c = search (rules, none_joined)

pub loop-value-preserved : goal.loop-value-preserved
loop-value-preserved c = search (rules, one_more_joined)
