use Rattle.std.proofs.Common.{codes}
use Rattle.pool_input.proofs.Building.{required_rule}
use Rattle.pool_input.proofs.command.config_argument.Goals as goal

pub returns-clause-rule : goal.returns-clause-rule
returns-clause-rule c = required_rule (codes "CONFIG") _ c.new.result c.required.result c.help.result c.new.ensures.rule c.required.ensures c.help.ensures
