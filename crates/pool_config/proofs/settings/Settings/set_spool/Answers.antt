use Rattle.std.proofs.Common.{ap, List, ℕ, Ok}
use Rattle.pool_config.specs.Settings.{spool_with}
use Rattle.pool_config.specs.SoFar.{so_far}
use Rattle.pool_config.proofs.settings.Settings.set_spool.Goals as goal

pub returns : goal.returns
returns c = ap (λ (x : List ℕ). Ok (spool_with x (so_far c.args.self.now))) c.in_ok-text.ensures
