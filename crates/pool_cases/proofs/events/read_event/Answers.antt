use Rattle.pool_cases.proofs.Given.{given_by}
use Rattle.pool_cases.proofs.events.read_event.Goals as goal

pub returns-in_default-clause-given : goal.returns-in_default-clause-given
returns-in_default-clause-given c = given_by _ _ c.read_plain.ensures
