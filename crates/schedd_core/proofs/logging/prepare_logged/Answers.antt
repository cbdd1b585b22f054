use Rattle.std.proofs.Common.{Option, List, ap, ◌∙◌}
use Rattle.pool_mail.specs.declared.mail.Mail.{Mail}
use Rattle.schedd_plan.specs.declared.plan.JobPlan.{JobPlan}
use Rattle.schedd_state.specs.Schedds.{says}
use Rattle.schedd_core.specs.Logging.{after_logged}
use Rattle.schedd_core.proofs.logging.prepare_logged.Goals as goal

pub returns-in_default-clause-schedd : goal.returns-in_default-clause-schedd
returns-in_default-clause-schedd c =
    c.nothing.ensures.schedd ∙ ap (λ (o : Option JobPlan). (after_logged c.args.schedd.now c.args.queue.now o).schedd) c.in_default.ensures

pub returns-in_default-clause-step : goal.returns-in_default-clause-step
returns-in_default-clause-step c =
    c.nothing.ensures.step ∙ ap (λ (o : Option JobPlan). (after_logged c.args.schedd.now c.args.queue.now o).step) c.in_default.ensures

pub returns-clause-schedd : goal.returns-clause-schedd
returns-clause-schedd c =
    c.in_ok-change.ensures.settled ∙ ap (λ (o : Option JobPlan). (after_logged c.args.schedd.now c.args.queue.now o).schedd) c.in-Some.ensures

pub returns-clause-step : goal.returns-clause-step
returns-clause-step c =
    ap (λ (mails : List Mail). says mails) c.in_ok-mails.ensures
    ∙ ap (λ (o : Option JobPlan). (after_logged c.args.schedd.now c.args.queue.now o).step) c.in-Some.ensures
