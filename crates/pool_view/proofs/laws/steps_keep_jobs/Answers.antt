use Rattle.pool_view.proofs.Steps.{step_acked, step_core, step_done}
use Rattle.pool_view.proofs.laws.steps_keep_jobs.Goals as goal

pub returns-clause-core : goal.returns-clause-core
returns-clause-core c = λ v k ok job core. step_core v k job core ok

pub returns-clause-acknowledged : goal.returns-clause-acknowledged
returns-clause-acknowledged c = step_acked

pub returns-clause-done : goal.returns-clause-done
returns-clause-done c = λ v k ok job outcome. step_done v k job outcome ok
