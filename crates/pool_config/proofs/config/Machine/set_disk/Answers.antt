use Rattle.std.proofs.Common.{ℕ, ap}
use Rattle.pool_config.specs.Configuration.{machine_of}
use Rattle.pool_config.specs.Settings.{with_value}
use Rattle.pool_config.proofs.config.Machine.set_disk.Goals as goal

pub returns-in-Some : goal.returns-in-Some
returns-in-Some c = ap (with_value c.args.line (λ (k : ℕ). record (machine_of c.args.self.now) { disk = k })) c.in-Some.ensures

pub returns-in-None : goal.returns-in-None
returns-in-None c = ap (with_value c.args.line (λ (k : ℕ). record (machine_of c.args.self.now) { disk = k })) c.in-None.ensures
