use Rattle.std.proofs.Common.{ap, ◌∙◌}
use Rattle.schedd_state.specs.Schedds.{After}
use Rattle.schedd_core.proofs.LooksTaken.{looked_at, none_looked_at, step_same}
use Rattle.schedd_core.proofs.checks.prepare_check.Goals as goal

pub returns-in_default-clause-schedd : goal.returns-in_default-clause-schedd
returns-in_default-clause-schedd c =
    c.nothing.ensures.schedd ∙ ap (λ (a : After). a.schedd) (none_looked_at c.args.schedd.now c.args.queue.now c.args.job c.args.reading c.in_default.ensures)

pub returns-in_default-clause-step : goal.returns-in_default-clause-step
returns-in_default-clause-step c =
    c.nothing.ensures.step ∙ ap (λ (a : After). a.step) (none_looked_at c.args.schedd.now c.args.queue.now c.args.job c.args.reading c.in_default.ensures)

pub returns-in_default-clause-room : goal.returns-in_default-clause-room
returns-in_default-clause-room c = c.nothing.ensures.room

pub returns-clause-schedd : goal.returns-clause-schedd
returns-clause-schedd c =
    c.look_at.ensures.schedd ∙ ap (λ (a : After). a.schedd) (looked_at c.args.schedd.now c.args.queue.now c.args.job c.in-Some.ad.now c.place-place.result c.args.reading c.in_ok-plan.plan c.in_ok-look.look
    c.in_ok-plan.ensures c.place-place.ensures c.in_ok-look.ensures c.in-Some.ensures)

pub returns-clause-step : goal.returns-clause-step
returns-clause-step c =
    c.look_at.ensures.step ∙ step_same c.in_ok-plan.plan _ _ ∙ ap (λ (a : After). a.step) (looked_at c.args.schedd.now c.args.queue.now c.args.job c.in-Some.ad.now c.place-place.result c.args.reading c.in_ok-plan.plan c.in_ok-look.look
    c.in_ok-plan.ensures c.place-place.ensures c.in_ok-look.ensures c.in-Some.ensures)

pub returns-clause-room : goal.returns-clause-room
returns-clause-room c = c.look_at.ensures.room
