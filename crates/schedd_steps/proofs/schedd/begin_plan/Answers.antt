use Rattle.schedd_steps.proofs.DeedReady.{plan_begun}
use Rattle.schedd_steps.proofs.schedd.begin_plan.Goals as goal

pub returns : goal.returns
returns c = plan_begun c.args.number c.in-Some.plan c.args.plan c.in_ok-tx.tx c.in_ok-new.field-0 c.in-Some.is c.in_ok-tx.ensures c.in_ok-new.ensures
