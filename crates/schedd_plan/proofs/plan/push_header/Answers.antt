use Rattle.std.proofs.Common.{◌∙◌, List, ℕ, [], ◌∷◌, ◌++◌, ap}
use Rattle.queue_tx.specs.declared.key.Key.TheVariants.{Header}
use Rattle.queue_tx.specs.Operations.{new_ad}
use Rattle.schedd_plan.specs.declared.plan.TheConstants.{HEADER_KIND}
use Rattle.schedd_plan.proofs.plan.push_header.Goals as goal

pub returns : goal.returns
returns c =
    c.in_ok-push.ensures.ok
    ∙ ap (λ (kind : List ℕ). c.args.tx.now ++ new_ad Header kind c.in_ok-other.other ∷ []) c.in_ok-kind.ensures
    ∙ ap (λ (other : List ℕ). c.args.tx.now ++ new_ad Header HEADER_KIND.now other ∷ []) c.in_ok-other.ensures
