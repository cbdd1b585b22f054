use Rattle.std.proofs.Common.{◌∙◌, ap, option_map}
use Rattle.pool_config.specs.declared.value.TheConstants.{MAX_SECONDS}
use Rattle.pool_config.specs.Configuration.{configuration_of, machine_of}
use Rattle.pool_config.specs.Settings.{with_config, with_value, with_seconds, number_within}
use Rattle.pool_config.specs.SoFar.{so_far}
use Rattle.pool_config.proofs.Becoming.{seconds_become}
use Rattle.pool_config.proofs.settings.Settings.set_seconds.Goals as goal

pub returns-in-Some : goal.returns-in-Some
returns-in-Some c =
    let s = c.args.self.now in
    seconds_become c.args.interval c.in-Some.n c.args.line c.least_seconds.result c.args.text.now (configuration_of s.config) (configuration_of c.set_seconds.new.self) s.ceiling s.prio_factor (option_map machine_of s.last) c.set_seconds.ensures c.least_seconds.ensures c.in-Some.ensures.value

pub returns-in-None : goal.returns-in-None
returns-in-None c =
    let s = so_far c.args.self.now in
    ap (with_value c.args.line (λ k. with_config (with_seconds c.args.interval k s.config) s)) (c.in-None.ensures.value ∙ ap (λ n. number_within n MAX_SECONDS c.args.text.now) c.least_seconds.ensures)
