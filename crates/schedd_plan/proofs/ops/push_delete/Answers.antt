use Rattle.std.proofs.Common.{◌∙◌, List, ℕ, [], ◌∷◌, ◌++◌, ap}
use Rattle.queue_tx.specs.declared.key.Key.TheVariants.{Proc}
use Rattle.queue_tx.specs.Operations.{delete_attr}
use Rattle.schedd_plan.proofs.ops.push_delete.Goals as goal

pub returns : goal.returns
returns c = c.in_ok-push.ensures.ok ∙ ap (λ (name : List ℕ). c.args.tx.now ++ delete_attr (Proc c.args.job) name ∷ []) c.in_ok-name.ensures
