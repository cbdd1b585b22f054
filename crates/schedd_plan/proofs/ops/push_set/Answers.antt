use Rattle.std.proofs.Common.{◌∙◌, List, ℕ, [], ◌∷◌, ◌++◌, ap}
use Rattle.ad_tree.specs.Tree.{tree}
use Rattle.queue_tx.specs.Operations.{set_attr}
use Rattle.schedd_plan.proofs.ops.push_set.Goals as goal

pub returns : goal.returns
returns c = c.in_ok-push.ensures.ok ∙ ap (λ (name : List ℕ). c.args.tx.now ++ set_attr c.args.key name (tree c.args.expr) ∷ []) c.in_ok-name.ensures
