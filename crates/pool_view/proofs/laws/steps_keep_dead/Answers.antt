use Rattle.pool_view.proofs.Steps.{step_runs_spent, step_dead}
use Rattle.pool_view.proofs.laws.steps_keep_dead.Goals as goal

pub returns-clause-spent : goal.returns-clause-spent
returns-clause-spent c = λ v k ok spent. step_runs_spent v k spent ok

pub returns-clause-dead : goal.returns-clause-dead
returns-clause-dead c = λ v k ok run. step_dead v k run ok
