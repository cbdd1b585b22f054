-- The two ads that an evaluation is lent, and what is found in them.
use Rattle.std.specs.Prelude.{ℕ, ◌≤◌, Option, option_map}
use Rattle.std.specs.Borrow.{Bor}
use Rattle.ad_tree.specs.declared.tree.Expr.{Expr}
use Rattle.ad_tree.specs.Tree.{tree}
use Rattle.ad_eval.specs.declared.sides.Side.{Side}
use Rattle.ad_eval.specs.declared.sides.Sides.{Sides}
use Rattle.ad_eval.specs.Mean.{Ads, FoundTree, both_ads, present}
use Rattle.ad_eval.specs.Size.{tree_size, largest_tree_of}

abbrev pub ads_of : Sides → Ads
ads_of s = both_ads s.my.now (present s.target)

-- the side, the place and the expression of an attribute
abbrev pub FoundExpr : Type 0
FoundExpr = Side × ℕ × Bor Expr

abbrev pub found_tree : Option FoundExpr → Option FoundTree
found_tree o = option_map (λ f. (f.0, f.1, tree f.2.now)) o

-- no larger than the largest expression of the two ads
abbrev pub IsNoLarger : Ads → FoundExpr → Type 0
IsNoLarger ads f = tree_size (tree f.2.now) ≤ largest_tree_of ads
