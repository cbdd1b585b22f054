use Rattle.std.proofs.Common.{List, Option, None, refl, subst}
use Rattle.std.specs.declared.ops.Bound.TheVariants.{Unbounded}
use Rattle.queue_tx.specs.Jobs.{FirstKey}
use Rattle.schedd_plan.specs.declared.claims.KeptClaim.{KeptClaim}
use Rattle.schedd_state.specs.Searches.{IsFree}
use Rattle.schedd_core.specs.Ticks.{IsSoughtBy}
use Rattle.schedd_core.proofs.ticks.sought_by.Goals as goal

pub returns-in-Some : goal.returns-in-Some
returns-in-Some c =
    let v = c.args.schedd.now in
    let first = subst (λ (cs : List KeptClaim). FirstKey (IsFree cs c.in-Some.claim.now.ad c.args.queue.now) Unbounded c.first_free.result)
    c.claims.ensures c.first_free.ensures in
    subst (λ (o : Option KeptClaim). IsSoughtBy v.claims o c.args.queue.now c.first_free.result) c.in-Some.ensures first

pub returns-in-None : goal.returns-in-None
returns-in-None c =
    subst (λ (o : Option KeptClaim). IsSoughtBy c.args.schedd.now.claims o c.args.queue.now None) c.in-None.ensures refl
