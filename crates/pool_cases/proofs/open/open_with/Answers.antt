use Rattle.std.proofs.Common.{◌∙◌}
use Rattle.pool_cases.proofs.Driving.{opening_driven}
use Rattle.pool_cases.proofs.open.open_with.Goals as goal

pub returns-in-Ok : goal.returns-in-Ok
returns-in-Ok c =
    opening_driven c.into_opening.result c.args.rolls.now c.open_opening.result
    c.open_opening.ensures.can c.open_opening.ensures.opened
    (c.into_opening.ensures.log ∙ c.log_mark.ensures)
    (c.into_opening.ensures.ends ∙ c.in-Ok.ensures)
