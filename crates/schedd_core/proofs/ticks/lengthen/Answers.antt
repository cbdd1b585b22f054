use Rattle.std.proofs.Common.{Option, ap}
use Rattle.schedd_plan.specs.declared.runs.KeptRun.{KeptRun}
use Rattle.schedd_core.specs.Ticks.{after_lengthen}
use Rattle.schedd_core.proofs.Prepared.{lengthened_so, no_ad_lengthened, quiet_so}
use Rattle.schedd_core.proofs.ticks.lengthen.Goals as goal

pub returns-in_default : goal.returns-in_default
returns-in_default c =
    let v = c.args.schedd.now in
    let n = c.nothing.ensures in
    quiet_so v v c.nothing.result _ n.schedd n.step n.room
    (ap (λ (o : Option KeptRun). after_lengthen v c.args.queue.now c.args.place o c.args.reading) c.in_default.ensures)

pub returns-in_default-ad_of : goal.returns-in_default-ad_of
returns-in_default-ad_of c =
    let v = c.args.schedd.now in
    let n = c.nothing-in_default-ad_of.ensures in
    quiet_so v v c.nothing-in_default-ad_of.result _ n.schedd n.step n.room
    (no_ad_lengthened v c.args.queue.now c.args.place c.in-Some.run'.now c.args.reading c.in_default-ad_of.ensures c.in-Some.ensures)

pub returns : goal.returns
returns c =
    let w = c.wait_with.ensures in
    lengthened_so c.args.schedd.now c.args.queue.now c.args.place c.in-Some.run'.now c.in-Some-ad_of.ad.now c.settings.result.now
    c.args.reading c.in_ok-end.end c.later-until.result c.lease_until.result c.wait_with.result w.schedd w.step w.room
    c.later-until.ensures c.in_ok-end.ensures c.settings.ensures c.lease_until.ensures c.in-Some-ad_of.ensures c.in-Some.ensures
