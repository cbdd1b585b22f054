use Rattle.schedd_core.proofs.BackFits.{reopened_fits}
use Rattle.schedd_core.proofs.KeptPlans.{reopened_part}
use Rattle.schedd_core.proofs.laws.reopened_schedds_go_on.Goals as goal

pub returns-clause-fits : goal.returns-clause-fits
returns-clause-fits c = λ read reads q v back reading fit reopened. reopened_fits read reads q reading v back fit reopened

pub returns-clause-part : goal.returns-clause-part
returns-clause-part c = λ read reads p q v back reading part none reopened. reopened_part read reads p q v back reading part none reopened
