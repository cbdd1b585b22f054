use Rattle.std.proofs.Common.{◌∙◌, refl}
use Rattle.ad_eval.specs.JudgementCode.{same_mismatch}
use Rattle.ad_eval.proofs.mismatch.NoMatchCopied.copy.Goals as goal

pub returns : goal.returns
returns c = same_mismatch _ _ (rw (c.in_ok-copy.ensures, c.in_ok-copy-2.ensures) refl) ∙ c.self.view_is
