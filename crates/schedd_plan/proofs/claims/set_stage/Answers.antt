use Rattle.std.proofs.Common.{Option, ap, sym, refl}
use Rattle.std.proofs.lemmas.Option.{slice_get_read}
use Rattle.schedd_plan.specs.declared.claims.KeptClaim.{KeptClaim}
use Rattle.schedd_plan.specs.KeptClaims.{staged}
use Rattle.schedd_plan.proofs.claims.set_stage.Goals as goal

pub returns-in-Some : goal.returns-in-Some
returns-in-Some c =
    ap (λ (found : Option KeptClaim). staged found c.args.place c.args.stage c.args.claims.now.items)
    (sym (slice_get_read c.args.claims.now.items _ c.args.place c.in-Some.kept.now refl c.in-Some.ensures.item.3.0 c.in-Some.ensures.item.1))
