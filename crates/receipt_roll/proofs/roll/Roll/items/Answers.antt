use Rattle.std.proofs.Common.{ap, ◌∙◌}
use Rattle.receipt_roll.proofs.roll.Roll.items.Goals as goal

pub returns : goal.returns
returns g c = c.as_slice.ensures.value ∙ ap (λ r. r.list) c.self.view_is
