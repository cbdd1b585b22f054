use Rattle.std.proofs.Common.{Option, ap, ◌∙◌}
use Rattle.std.specs.Prelude.{is_some}
use Rattle.schedd_plan.specs.declared.claims.KeptClaim.{KeptClaim}
use Rattle.schedd_core.specs.Ticks.{after_grant}
use Rattle.schedd_core.proofs.Prepared.{granted_so, is_some_map, no_ad_granted, quiet_so}
use Rattle.schedd_core.proofs.ticks.grant.Goals as goal

pub returns-in_default : goal.returns-in_default
returns-in_default c =
    let v = c.args.schedd.now in
    let n = c.nothing.ensures in
    quiet_so v v c.nothing.result _ n.schedd n.step n.room
    (ap (λ (o : Option KeptClaim). after_grant v c.args.queue.now c.args.place o c.args.job c.args.reading) c.in_default.ensures)

pub returns-in_default-ad_of : goal.returns-in_default-ad_of
returns-in_default-ad_of c =
    let v = c.args.schedd.now in
    let n = c.nothing-in_default-ad_of.ensures in
    quiet_so v v c.nothing-in_default-ad_of.result _ n.schedd n.step n.room
    (no_ad_granted v c.args.queue.now c.args.place c.in-Some.kept.now c.args.job c.args.reading c.in_default-ad_of.ensures c.in-Some.ensures)

pub returns : goal.returns
returns c =
    let w = c.wait_with-prepared.ensures in
    granted_so c.args.schedd.now c.args.queue.now c.args.place c.in-Some.kept.now c.args.job c.in-Some-ad_of.ad.now c.settings.result.now
    c.args.reading c.next_run-number.result c.in_ok-until.until c.is_some-header.result c.in_ok-runs.runs.items c.wait_with-prepared.result
    w.schedd w.step w.room c.in_ok-runs.ensures c.next_run-number.ensures c.in_ok-until.ensures c.settings.ensures
    (c.is_some-header.ensures ∙ is_some_map _ c.get.result ∙ ap is_some c.get.ensures.ad)
    c.in-Some-ad_of.ensures c.in-Some.ensures
