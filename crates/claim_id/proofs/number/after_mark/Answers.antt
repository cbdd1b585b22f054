use Rattle.std.proofs.lemmas.Str.Pattern.{strip_prefix_char}
use Rattle.claim_id.proofs.number.after_mark.Goals as goal

pub returns : goal.returns
returns c = let h = strip_prefix_char c.args.mark c.args.text.now c.strip_prefix.result c.strip_prefix.ensures.cases c.requires in h
