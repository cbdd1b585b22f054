use Rattle.std.proofs.Common.{ap, Ok}
use Rattle.pool_config.specs.Configuration.{Configuration}
use Rattle.pool_config.proofs.settings.Settings.into_config.Goals as goal

pub returns : goal.returns
returns c = ap (λ (k : Configuration). Ok k) c.in_ok-finish.ensures
