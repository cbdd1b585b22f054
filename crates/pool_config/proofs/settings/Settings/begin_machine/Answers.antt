use Rattle.std.proofs.Common.{sym, ◌∙◌}
use Rattle.pool_config.specs.Configuration.{machine_of}
use Rattle.pool_config.specs.SoFar.{so_far}
use Rattle.pool_config.proofs.Becoming.{machine_begins, machine_refused}
use Rattle.pool_config.proofs.settings.Settings.begin_machine.Goals as goal

pub returns-in_ok-machine-in-Ok : goal.returns-in_ok-machine-in-Ok
returns-in_ok-machine-in-Ok c =
    machine_begins c.args.text.now c.args.line (so_far c.args.self.now) (so_far c.keep_last.new.self) (machine_of c.in_ok-machine-in-Ok.machine) c.in_ok-keep_last.ensures (sym c.check_machine.ensures ∙ c.in-Ok.is) c.in_ok-machine-in-Ok.ensures

pub returns-in-Err : goal.returns-in-Err
returns-in-Err c =
    machine_refused c.args.text.now c.args.line (so_far c.args.self.now) (so_far c.keep_last.new.self) (so_far c.keep_last.new.self) c.in-Err.error c.in_ok-keep_last.ensures (sym c.check_machine.ensures ∙ c.in-Err.is)
