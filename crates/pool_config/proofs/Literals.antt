-- The trees of literals.
use Rattle.std.proofs.Common.{◌≡◌, ◌∙◌, ℤ, refl, ap, rules}
use Rattle.std.proofs.Common as std
use Rattle.ad_value.specs.declared.value.Value.{the_lemmas}
use Rattle.ad_value.specs.declared.value.Value.TheVariants.{Bool, Int}
use Rattle.ad_value.specs.Content.{content, truth, integer}
use Rattle.ad_tree.specs.declared.tree.Expr.TheVariants.{Lit}
use Rattle.ad_tree.specs.Tree.{tree, literal}
use Rattle.ad_tree.proofs.TreeLemmas.{tree_literal}

pub truth_tree : (b : std.Bool) → tree (Lit (Bool b)) ≡ literal (truth b)
truth_tree b =
    let is : content (Bool b) ≡ truth b = search (rules, the_lemmas) in
    tree_literal (Lit (Bool b)) (Bool b) refl ∙ ap literal is

pub integer_tree : (n : ℤ) → tree (Lit (Int n)) ≡ literal (integer n)
integer_tree n =
    let is : content (Int n) ≡ integer n = search (rules, the_lemmas) in
    tree_literal (Lit (Int n)) (Int n) refl ∙ ap literal is
