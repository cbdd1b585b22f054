use Rattle.std.proofs.Common.{ap, option_map, sym}
use Rattle.pool_config.specs.Configuration.{ConfiguredMachine, machine_of}
use Rattle.pool_config.specs.Settings.{attribute_with, expression_in, last_with}
use Rattle.pool_config.specs.SoFar.{so_far}
use Rattle.pool_config.proofs.Becoming.{last_becomes}
use Rattle.pool_config.proofs.settings.Settings.set_attribute.Goals as goal

pub returns-in-Some : goal.returns-in-Some
returns-in-Some c =
    let s = c.args.self.now in
    last_becomes (so_far s) (λ m. attribute_with c.args.name.now c.args.line m (expression_in c.args.text.now)) c.args.line (machine_of c.in-Some.machine) (machine_of c.set_attribute.new.self) c.set_attribute.result (option_map machine_of s.last) (ap (option_map machine_of) (sym c.in-Some.is)) c.set_attribute.ensures

pub returns-in-None : goal.returns-in-None
returns-in-None c = ap (λ o. last_with (λ (m : ConfiguredMachine). attribute_with c.args.name.now c.args.line m (expression_in c.args.text.now)) c.args.line (so_far c.args.self.now) (option_map machine_of o)) (sym c.in-None.is)
