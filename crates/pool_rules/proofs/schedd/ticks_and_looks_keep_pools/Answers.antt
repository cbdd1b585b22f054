use Rattle.pool_rules.proofs.ScheddEvents.{look_keeps, tick_keeps}
use Rattle.pool_rules.proofs.schedd.ticks_and_looks_keep_pools.Goals as goal

pub returns-clause-ticks : goal.returns-clause-ticks
returns-clause-ticks c = tick_keeps

pub returns-clause-looks : goal.returns-clause-looks
returns-clause-looks c = look_keeps
