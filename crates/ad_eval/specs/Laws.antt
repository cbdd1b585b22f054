-- What holds of evaluation as a whole.
use Rattle.std.specs.Prelude.{◌≡◌, ◌≢◌, ◌↔◌, ℕ, true, false, IsTrue, List, map, Option, option_map, MatchOption}
use Rattle.std.specs.Option.{option_or}
use Rattle.ad_value.specs.Content.{Content, truth}
use Rattle.ad_value.specs.Names.{same_name}
use Rattle.ad_tree.specs.declared.operator.BinOp.{BinOp}
use Rattle.ad_tree.specs.declared.operator.BinOp.TheVariants as bin
use Rattle.ad_tree.specs.declared.operator.Scope.{Scope}
use Rattle.ad_tree.specs.declared.operator.Scope.TheVariants as scope
use Rattle.ad_tree.specs.declared.operator.UnOp.TheVariants.{Not}
use Rattle.ad_tree.specs.Tree.{Tree, choice, call, no_trees, and_tree}
use Rattle.ad_tree.specs.Ad.{lookup}
use Rattle.ad_func.specs.declared.function.Function.TheVariants.{IfThenElse}
use Rattle.ad_func.specs.Function.{function_name}
use Rattle.ad_eval.specs.declared.progress.Progress.{Progress}
use Rattle.ad_eval.specs.declared.sides.Side.{Side}
use Rattle.ad_eval.specs.Mean.{Ads, NameValues, both_ads, ad_on, opposite, found_place, tree_value, looked_up}
use Rattle.ad_eval.specs.Operators.{binary_value, unary_value}
use Rattle.ad_eval.specs.Settling.{settled_value, LeftSettles, RightMatters}

-- ---- names

-- the expression of a name, by look-ups in the two ads
abbrev pub expression_named : Ads → Side → Scope → List ℕ → Option Tree
expression_named ads s scope.My x = lookup x (ad_on ads s)
expression_named ads s scope.Target x = lookup x (ad_on ads (opposite s))
expression_named ads s scope.Bare x =
    option_or (lookup x (ad_on ads s)) (lookup x (ad_on ads (opposite s)))

-- a reference finds what the look-ups give
abbrev pub FindsWhatIsThere : Ads → Side → Scope → List ℕ → Type 0
FindsWhatIsThere ads s c x =
    option_map (λ f. f.2) (found_place ads s c x) ≡ expression_named ads s c x

-- ---- the two sides

abbrev pub exchanged : Ads → Ads
exchanged ads = both_ads ads.target ads.my

abbrev pub exchanged_progress : Progress → Progress
exchanged_progress b = map (λ p. (opposite p.0, p.1)) b

-- an expression means on a side what it means on the other one where the ads are exchanged
abbrev pub MeansTheSameExchanged : Ads → Side → ℕ → Progress → Tree → Type 0
MeansTheSameExchanged ads s now b e =
    tree_value (looked_up ads s now b) now e
    ≡ tree_value (looked_up (exchanged ads) (opposite s) now (exchanged_progress b)) now e

-- ---- operators

-- =?= is TRUE of equal values and FALSE of others, and =!= is its negation
pub record IsIdentity (a b : Content) : Type 0 where
  pub equal : (binary_value bin.Same a b ≡ truth true) ↔ (a ≡ b)
  pub different : (binary_value bin.Same a b ≡ truth false) ↔ (a ≢ b)
  pub negated : binary_value bin.NotSame a b ≡ unary_value Not (binary_value bin.Same a b)

-- the left operand settles the value exactly where the right one does not matter
abbrev pub SettlesWhereRightIsIdle : BinOp → Content → Type 0
SettlesWhereRightIsIdle op a =
    MatchOption (settled_value op a) (RightMatters op a) (LeftSettles op a)

-- ifThenElse(t, y, n), however it is spelled, is t ? y : n
abbrev pub IsConditional : NameValues → ℕ → List ℕ → Tree → Tree → Tree → Type 0
IsConditional look now x t y n =
    IsTrue (same_name (function_name IfThenElse) x)
    → tree_value look now (call x (and_tree t (and_tree y (and_tree n no_trees))))
    ≡ tree_value look now (choice t y n)
