-- What an expression means over two ads (HTCondor manual, "ClassAd evaluation"; Raman, Livny and
-- Solomon, "Matchmaking", 1998).
use Rattle.std.specs.Prelude.{ℕ, zero, suc, ◌-◌, ◌==◌, Bool, true, false, ◌&&◌, List, [], ◌∷◌, ◌++◌, length, slice_get, Option, Some, None, if◌then◌else◌}
use Rattle.std.specs.Borrow.{Bor}
use Rattle.ad_value.specs.Content.{Content, undefined, error, contents_of}
use Rattle.ad_value.specs.Content as value
use Rattle.ad_value.specs.Truth.{truth_of, chosen_value}
use Rattle.ad_tree.specs.declared.operator.Scope.{Scope}
use Rattle.ad_tree.specs.declared.operator.Scope.TheVariants as scope
use Rattle.ad_tree.specs.Tree.{Tree, Trees, Rests, literal, reference, unary, chain, choice, or_else, call, items, no_trees, and_tree, no_rests, and_rest}
use Rattle.ad_tree.specs.Ad.{Attributes, place_of}
use Rattle.ad_func.specs.Called.{call_value}
use Rattle.ad_eval.specs.declared.progress.Progress.{Progress}
use Rattle.ad_eval.specs.declared.progress.TheConstants.{MOST_IN_PROGRESS}
use Rattle.ad_eval.specs.declared.sides.Side.{Side}
use Rattle.ad_eval.specs.declared.sides.Side.TheVariants as side
use Rattle.ad_eval.specs.Operators.{binary_value, unary_value, first_defined}

-- the ad itself and the other ad
pub record Ads : Type 0 where
  pub my : Attributes
  pub target : Attributes

-- an ad that is absent has no attributes
abbrev pub present : Option (Bor Attributes) → Attributes
present None = []
present (Some ad) = ad.now

abbrev pub both_ads : Attributes → Attributes → Ads
both_ads my target = record { my = my; target = target }

abbrev pub ad_on : Ads → Side → Attributes
ad_on ads side.My = ads.my
ad_on ads side.Target = ads.target

abbrev pub opposite : Side → Side
opposite side.My = side.Target
opposite side.Target = side.My

-- ---- where a name is found

-- an expression with its place in an ad; and with the side of that ad
abbrev pub PlacedTree : Type 0
PlacedTree = ℕ × Tree

abbrev pub FoundTree : Type 0
FoundTree = Side × ℕ × Tree

abbrev pub placed_attribute : ℕ → Option (List ℕ × Tree) → Option PlacedTree
placed_attribute i None = None
placed_attribute i (Some a) = Some (i, a.1)

abbrev pub at_place : Attributes → Option ℕ → Option PlacedTree
at_place ad None = None
at_place ad (Some i) = placed_attribute i (slice_get ad i)

abbrev pub found_in_ad : List ℕ → Attributes → Option PlacedTree
found_in_ad x ad = at_place ad (place_of x ad)

abbrev pub here_or : Side → Option PlacedTree → Option FoundTree → Option FoundTree
here_or s None o = o
here_or s (Some a) o = Some (s, a.0, a.1)

abbrev pub found_on_side : Ads → Side → List ℕ → Option FoundTree
found_on_side ads s x = here_or s (found_in_ad x (ad_on ads s)) None

-- a bare name is looked up on the side that holds the expression, then on the other
abbrev pub found_place : Ads → Side → Scope → List ℕ → Option FoundTree
found_place ads s scope.Bare x =
    here_or s (found_in_ad x (ad_on ads s)) (found_on_side ads (opposite s) x)
found_place ads s scope.My x = found_on_side ads s x
found_place ads s scope.Target x = found_on_side ads (opposite s) x

-- ---- what names mean

-- Attributes in progress are a side and a place on it each. Names of an ad are distinct, so that a
-- place is as good as a name.
abbrev pub same_side : Side → Side → Bool
same_side side.My side.My = true
same_side side.Target side.Target = true
same_side s q = false

abbrev pub is_among : Side → ℕ → Progress → Bool
is_among s i [] = false
is_among s i (p ∷ ps) = if same_side p.0 s && (p.1 == i) then true else is_among s i ps

-- what the names of a scope mean
abbrev pub NameValues : Type 0
NameValues = Scope → List ℕ → Content

-- what an expression means, where look says what its names mean
abbrev mutual
  pub tree_value : NameValues → ℕ → Tree → Content
  tree_value look now (literal c) = c
  tree_value look now (reference s x) = look s x
  tree_value look now (unary op e) = unary_value op (tree_value look now e)
  tree_value look now (chain e rs) = rests_value look now (tree_value look now e) rs
  tree_value look now (choice t y n) =
      chosen_value
      (truth_of (tree_value look now t)) (tree_value look now y) (tree_value look now n)
  tree_value look now (or_else e f) = first_defined (tree_value look now e) (tree_value look now f)
  tree_value look now (call x es) = call_value x (tree_values look now es) now
  tree_value look now (items es) = value.items (contents_of (tree_values look now es))

  -- what operators and operands make of the value before them
  pub rests_value : NameValues → ℕ → Content → Rests → Content
  rests_value look now v no_rests = v
  rests_value look now v (and_rest op e rs) =
      rests_value look now (binary_value op v (tree_value look now e)) rs

  pub tree_values : NameValues → ℕ → Trees → List Content
  tree_values look now no_trees = []
  tree_values look now (and_tree e es) = tree_value look now e ∷ tree_values look now es

-- a name that is not found is undefined, and one that is in progress is an error; else it means
-- what its expression means on the side where it was found
abbrev pub look_found : (Side → ℕ → Tree → Content) → Progress → Option FoundTree → Content
look_found mean b None = undefined
look_found mean b (Some f) = if is_among f.0 f.1 b then error else mean f.0 f.1 f.2

-- what a name means on a side with these in progress, where n more may be
unfoldable pub look : ℕ → Ads → Side → ℕ → Progress → NameValues
look zero ads s now b scope x = error
look (suc n) ads s now b scope x =
    look_found
    (λ q i e. tree_value (look n ads q now (b ++ (q, i) ∷ [])) now e)
    b
    (found_place ads s scope x)

-- what a name means where as many may be in progress as may be
abbrev pub looked_up : Ads → Side → ℕ → Progress → NameValues
looked_up ads s now b = look (MOST_IN_PROGRESS - length b) ads s now b

-- the value of an expression by itself
abbrev pub expression_value : Attributes → Attributes → ℕ → Tree → Content
expression_value my target now e =
    tree_value (looked_up (both_ads my target) side.My now []) now e

-- the value of an attribute of the first ad, which is the first in progress
abbrev pub attribute_value : Attributes → Attributes → ℕ → List ℕ → Content
attribute_value my target now x = expression_value my target now (reference scope.My x)
