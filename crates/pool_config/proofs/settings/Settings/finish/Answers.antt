use Rattle.std.proofs.Common.{◌∙◌, ap}
use Rattle.pool_config.specs.Configuration.{configuration_of}
use Rattle.pool_config.specs.Settings.{SoFar}
use Rattle.pool_config.proofs.settings.Settings.finish.Goals as goal

pub returns : goal.returns
returns c =
    (λ i. record (configuration_of c.keep_last.new.self.config) { ceiling = c.in_ok-self.ensures i; prio_factor = c.in_ok-self-2.ensures i })
    ∙ ap (λ (s : SoFar). s.config) c.in_ok-keep_last.ensures
