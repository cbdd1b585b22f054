use Rattle.std.proofs.Common.{◌∙◌, refl}
use Rattle.ad_eval.specs.JudgementCode.{same_judgement}
use Rattle.ad_eval.proofs.judging.JudgedCopied.copy.Goals as goal

pub returns : goal.returns
returns c = same_judgement _ _ (rw (c.in_ok-copy.ensures, c.in_ok-copy-2.ensures) refl) ∙ c.self.view_is
