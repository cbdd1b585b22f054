use Rattle.pool_config.proofs.EachSlots.{read_has_slots}
use Rattle.pool_config.proofs.Limits.{read_within}
use Rattle.pool_config.proofs.file.read.Goals as goal

pub returns-clause-is : goal.returns-clause-is
returns-clause-is c = c.configuration_in.ensures

pub returns-clause-within : goal.returns-clause-within
returns-clause-within c = read_within c.args.text.now c.configuration_in.result c.configuration_in.ensures

pub returns-clause-each : goal.returns-clause-each
returns-clause-each c = read_has_slots c.args.text.now c.configuration_in.result c.configuration_in.ensures
