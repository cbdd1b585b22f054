use Rattle.std.proofs.Common.{◌∙◌, ◌++◌, ◌∷◌, [], Option, ap}
use Rattle.ad_tree.specs.Ad.{Attributes}
use Rattle.schedd_plan.specs.declared.claims.KeptClaim.{KeptClaim}
use Rattle.schedd_state.specs.Reopening.{one_claim}
use Rattle.schedd_core.proofs.reopened.push_claim.Goals as goal

pub returns-in_ok-push : goal.returns-in_ok-push
returns-in_ok-push c =
    c.in_ok-push.ensures.items
    ∙ ap (λ (claim : KeptClaim). c.args.claims.now.items ++ claim ∷ []) c.in_ok-claim.ensures
    ∙ ap (λ (o : Option Attributes). c.args.claims.now.items ++ one_claim o c.args.run.now) c.in-Some.ensures
