use Rattle.schedd_plan.proofs.ChangeLemmas.{told_at_ok}
use Rattle.schedd_plan.proofs.ended.set.Goals as goal

pub returns : goal.returns
returns c = told_at_ok c.set.result _ c.if-is_err.ensures.value c.set.ensures.ok
