use Rattle.std.proofs.Common.{Option, ap}
use Rattle.schedd_plan.specs.declared.runs.KeptRun.{KeptRun}
use Rattle.schedd_core.specs.Ticks.{after_past}
use Rattle.schedd_core.proofs.Prepared.{past_so, quiet_so}
use Rattle.schedd_core.proofs.ticks.free_past.Goals as goal

pub returns-in_default : goal.returns-in_default
returns-in_default c =
    let v = c.args.schedd.now in
    let n = c.nothing.ensures in
    quiet_so v v c.nothing.result _ n.schedd n.step n.room
    (ap (λ (o : Option KeptRun). after_past v c.args.queue.now c.args.place o) c.in_default.ensures)

pub returns : goal.returns
returns c =
    let w = c.wait_with.ensures in
    past_so c.args.schedd.now c.args.queue.now c.args.place c.in-Some.run'.now c.let_go-plan.result c.wait_with.result
    w.schedd w.step w.room c.let_go-plan.ensures c.in-Some.ensures
