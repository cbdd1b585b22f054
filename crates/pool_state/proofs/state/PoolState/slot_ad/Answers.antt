use Rattle.std.proofs.Common.{Some, ap, ◌∙◌}
use Rattle.pool_state.specs.Readings.{ad_of_slot}
use Rattle.pool_state.proofs.state.PoolState.slot_ad.Goals as goal

pub returns-in_ok-copy-in-Some : goal.returns-in_ok-copy-in-Some
returns-in_ok-copy-in-Some c = (λ i. Some (c.in_ok-copy-in-Some.ensures i)) ∙ ap ad_of_slot c.in-Some.ensures

pub returns-in-None : goal.returns-in-None
returns-in-None c = ap ad_of_slot c.in-None.ensures
