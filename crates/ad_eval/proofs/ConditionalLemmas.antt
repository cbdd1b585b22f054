-- ifThenElse is the conditional operator.
use Rattle.std.proofs.Common.{ℕ, List, [], ◌∷◌, ap}
use Rattle.ad_tree.specs.Tree.{Tree}
use Rattle.ad_func.specs.declared.function.Function.TheVariants.{IfThenElse}
use Rattle.ad_func.specs.Called.{found_function_value}
use Rattle.ad_func.proofs.FunctionLemmas.{names_function}
use Rattle.ad_eval.specs.Mean.{NameValues, tree_value}
use Rattle.ad_eval.specs.Laws.{IsConditional}

pub is_conditional : (look : NameValues) (now : ℕ) (x : List ℕ) (t y n : Tree) → IsConditional look now x t y n
is_conditional look now x t y n e =
    ap (λ o. found_function_value o (tree_value look now t ∷ tree_value look now y ∷ tree_value look now n ∷ []) now) ((names_function x IfThenElse).1 e)
