use Rattle.pool_outer.proofs.Scripts.{runs_on, ends_then}
use Rattle.pool_outer.proofs.laws.children_end_as_their_scripts_say.Goals as goal

pub returns-clause-runs : goal.returns-clause-runs
returns-clause-runs c = runs_on

pub returns-clause-ends : goal.returns-clause-ends
returns-clause-ends c = ends_then
