use Rattle.std.proofs.Common.{Some, None, ap, sym, subst, ◌∙◌}
use Rattle.std.specs.Prelude.{IfOk}
use Rattle.schedd_plan.specs.declared.plan.JobPlan.{JobPlan}
use Rattle.schedd_plan.specs.declared.tick.TickLine.{TickLine}
use Rattle.schedd_state.specs.declared.prepared.PreparedSchedd.{PreparedSchedd}
use Rattle.schedd_state.specs.Schedds.{waits}
use Rattle.schedd_core.specs.Prepared.{IsPrepared}
use Rattle.schedd_core.specs.Ticks.{after_line}
use Rattle.schedd_core.proofs.Prepared.{quiet_so, sought_so, waits_so}
use Rattle.schedd_core.proofs.ticks.take_line.Goals as goal

pub returns-in-Nothing : goal.returns-in-Nothing
unfolding after_line
returns-in-Nothing c =
    let v = c.args.schedd.now in
    let n = c.nothing.ensures in
    quiet_so v v c.nothing.result _ n.schedd n.step n.room
    (ap (λ (l : TickLine). after_line v c.args.queue.now l c.args.found c.args.reading) (sym c.in-Nothing.is))

pub returns-in-Left : goal.returns-in-Left
unfolding after_line
returns-in-Left c =
    let v = c.args.schedd.now in
    let w = c.wait_for-prepared.ensures in
    waits_so v v c.wait_for-prepared.result c.let_go.result _ w.schedd w.step w.room
    (ap (λ (plan : JobPlan). waits plan v) c.let_go.ensures
    ∙ ap (λ (l : TickLine). after_line v c.args.queue.now l c.args.found c.args.reading) (sym c.in-Left.is))

pub returns-in-Past : goal.returns-in-Past
unfolding after_line
returns-in-Past c =
    subst (λ (l : TickLine). IsPrepared c.args.schedd.now c.free_past.result (after_line c.args.schedd.now c.args.queue.now l c.args.found c.args.reading))
    (sym c.in-Past.is) c.free_past.ensures

pub returns-in-Lengthen : goal.returns-in-Lengthen
unfolding after_line
returns-in-Lengthen c =
    subst (λ (l : TickLine). IfOk c.lengthen.result (λ (p : PreparedSchedd). IsPrepared c.args.schedd.now p (after_line c.args.schedd.now c.args.queue.now l c.args.found c.args.reading)))
    (sym c.in-Lengthen.is) c.lengthen.ensures

pub returns-in-Regrant : goal.returns-in-Regrant
unfolding after_line
returns-in-Regrant c =
    subst (λ (l : TickLine). IfOk c.grant.result (λ (p : PreparedSchedd). IsPrepared c.args.schedd.now p (after_line c.args.schedd.now c.args.queue.now l c.args.found c.args.reading)))
    (sym c.in-Regrant.is) c.grant.ensures

pub returns-in-GiveUp : goal.returns-in-GiveUp
unfolding after_line
returns-in-GiveUp c =
    subst (λ (l : TickLine). IfOk c.give_up-in-GiveUp.result (λ (p : PreparedSchedd). IsPrepared c.args.schedd.now p (after_line c.args.schedd.now c.args.queue.now l c.args.found c.args.reading)))
    (sym c.in-GiveUp.is) c.give_up-in-GiveUp.ensures

pub returns-in-Some : goal.returns-in-Some
returns-in-Some c =
    sought_so c.args.schedd.now c.args.queue.now c.args.line c.in-Seek.place c.args.found (Some c.in-Some.key) c.args.reading c.grant_found.result c.in-Seek.is c.in-Some.is c.grant_found.ensures

pub returns-in-None : goal.returns-in-None
returns-in-None c =
    sought_so c.args.schedd.now c.args.queue.now c.args.line c.in-Seek.place c.args.found None c.args.reading c.give_up.result c.in-Seek.is c.in-None.is c.give_up.ensures
