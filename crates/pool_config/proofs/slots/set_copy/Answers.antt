use Rattle.std.proofs.Common.{◌∙◌, ap}
use Rattle.ad_tree.specs.Ad.{with_attribute}
use Rattle.pool_config.proofs.slots.set_copy.Goals as goal

pub returns-in-Ok : goal.returns-in-Ok
returns-in-Ok c = c.in-Ok.ensures.ok ∙ ap (λ e. with_attribute c.args.name.now e c.args.ad.now) c.in_ok-expr.ensures
