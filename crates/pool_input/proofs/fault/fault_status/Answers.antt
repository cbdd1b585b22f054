use Rattle.std.proofs.Common.{subst}
use Rattle.pool_input.specs.Faults.{IsFileFault}
use Rattle.pool_input.proofs.FileFaults.{file_limit}
use Rattle.pool_input.proofs.fault.fault_status.Goals as goal

pub returns-in-Limit-clause-early : goal.returns-in-Limit-clause-early
returns-in-Limit-clause-early c = file_limit c.in-Limit.which (subst IsFileFault c.in-Limit.is c.requires)
