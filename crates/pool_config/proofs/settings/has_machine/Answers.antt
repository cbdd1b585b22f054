use Rattle.std.proofs.Common.{◌∙◌}
use Rattle.pool_config.proofs.Machines.{any_machine}
use Rattle.pool_config.proofs.settings.has_machine.Goals as goal

pub returns : goal.returns
returns c = c.is_named.ensures ∙ any_machine c.args.name.now c.args.machines.now
