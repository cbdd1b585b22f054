use Rattle.std.proofs.Common.{Option, ap, subst}
use Rattle.std.specs.Prelude.{IfOk}
use Rattle.schedd_plan.specs.declared.claims.KeptClaim.{KeptClaim}
use Rattle.schedd_state.specs.declared.prepared.PreparedSchedd.{PreparedSchedd}
use Rattle.schedd_core.specs.Prepared.{IsPrepared}
use Rattle.schedd_core.specs.Ticks.{after_give_up}
use Rattle.schedd_core.proofs.Prepared.{quiet_so}
use Rattle.schedd_core.proofs.ticks.give_up.Goals as goal

pub returns-in_default : goal.returns-in_default
returns-in_default c =
    let v = c.args.schedd.now in
    let n = c.nothing.ensures in
    quiet_so v v c.nothing.result _ n.schedd n.step n.room
    (ap (λ (o : Option KeptClaim). after_give_up v c.args.place o) c.in_default.ensures)

pub returns : goal.returns
returns c =
    let v = c.args.schedd.now in
    subst (λ (o : Option KeptClaim). IfOk c.release.result (λ (p : PreparedSchedd). IsPrepared v p (after_give_up v c.args.place o)))
    c.in-Some.ensures c.release.ensures
