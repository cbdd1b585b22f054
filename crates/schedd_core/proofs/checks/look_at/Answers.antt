use Rattle.std.proofs.Common.{◌∙◌}
use Rattle.schedd_core.proofs.LooksTaken.{none_done, none_waits, plan_done, plan_waits}
use Rattle.schedd_core.proofs.checks.look_at.Goals as goal

pub returns-in_default-clause-schedd : goal.returns-in_default-clause-schedd
returns-in_default-clause-schedd c = c.looked.ensures.schedd ∙ none_waits c.args.plan c.waiting.result _ c.in_default.is c.waiting.ensures

pub returns-in_default-clause-step : goal.returns-in_default-clause-step
returns-in_default-clause-step c = none_done c.args.plan c.args.schedd.now _ c.in_default.is (c.looked.ensures.step ∙ c.nothing.ensures)

pub returns-clause-schedd : goal.returns-clause-schedd
returns-clause-schedd c = c.looked-2.ensures.schedd ∙ plan_waits c.args.plan c.in-Some.plan _ c.in-Some.is

pub returns-clause-step : goal.returns-clause-step
returns-clause-step c = plan_done c.args.plan c.in-Some.plan c.args.schedd.now _ c.in-Some.is (c.looked-2.ensures.step ∙ c.plan.ensures)
