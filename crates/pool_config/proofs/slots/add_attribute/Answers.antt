use Rattle.std.proofs.Common.{ap}
use Rattle.pool_config.specs.Slots.{and_attribute}
use Rattle.pool_config.proofs.slots.add_attribute.Goals as goal

pub returns-in-None : goal.returns-in-None
returns-in-None c = ap (λ o. and_attribute o c.args.ad.now) c.in-None.ensures
