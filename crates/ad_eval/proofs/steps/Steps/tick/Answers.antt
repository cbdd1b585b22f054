use Rattle.std.proofs.Common.{◌+◌, ap, ◌∙◌}
use Rattle.ad_eval.proofs.steps.Steps.tick.Goals as goal

pub returns : goal.returns
returns g c = c.add.ensures.total ∙ ap (λ n. n + 1) c.self.view_is
