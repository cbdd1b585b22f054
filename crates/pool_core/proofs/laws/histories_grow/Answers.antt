use Rattle.pool_core.proofs.Growing.{begins, grows}
use Rattle.pool_core.proofs.laws.histories_grow.Goals as goal

pub returns-clause-begin : goal.returns-clause-begin
returns-clause-begin c = begins

pub returns-clause-grow : goal.returns-clause-grow
returns-clause-grow c = grows
