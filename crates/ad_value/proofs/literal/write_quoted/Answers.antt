use Rattle.ad_value.proofs.LiteralLemmas.{escape_text_more}
use Rattle.ad_value.proofs.literal.write_quoted.Goals as goal

pub loop-c-preserved : goal.loop-c-preserved
loop-c-preserved c = rw (c.in_ok-write_escaped.ensures, c.loop-c.invariant) (escape_text_more _ _ _)
