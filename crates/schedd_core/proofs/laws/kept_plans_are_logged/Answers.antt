use Rattle.schedd_core.proofs.KeptPlans.{kept_as_logged}
use Rattle.schedd_core.proofs.laws.kept_plans_are_logged.Goals as goal

pub returns : goal.returns
returns c = λ q new v back plan reading ordered fits h waiting reopened. kept_as_logged q new v plan ordered fits h back reading waiting reopened
