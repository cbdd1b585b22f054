use Rattle.pool_view.proofs.Steps.{step_safe, step_leased}
use Rattle.pool_view.proofs.laws.steps_keep_safe.Goals as goal

pub returns-clause-safe : goal.returns-clause-safe
returns-clause-safe c = λ v k ok safe leased. step_safe v k safe leased ok

pub returns-clause-leased : goal.returns-clause-leased
returns-clause-leased c = λ v k ok safe leased. step_leased v k safe ok leased
