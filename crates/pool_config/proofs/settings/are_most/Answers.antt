use Rattle.std.proofs.Common.{ap, sym}
use Rattle.std.specs.Prelude.{nat_le}
use Rattle.pool_config.specs.declared.config.TheConstants.{MAX_MACHINES}
use Rattle.pool_config.proofs.Machines.{as_many}
use Rattle.pool_config.proofs.settings.are_most.Goals as goal

pub returns : goal.returns
returns c = ap (nat_le MAX_MACHINES) (sym (as_many c.args.machines.now))
