-- What an evaluation makes of what it meets on a side, as far as it has come.
use Rattle.std.specs.Prelude.{List}
use Rattle.ad_value.specs.Content.{Content}
use Rattle.ad_tree.specs.Tree.{Tree, Trees, Rests}
use Rattle.ad_eval.specs.declared.evaluation.Evaluation.{Evaluation}
use Rattle.ad_eval.specs.declared.sides.Side.{Side}
use Rattle.ad_eval.specs.Mean.{NameValues, looked_up, tree_value, tree_values, rests_value}
use Rattle.ad_eval.specs.Sides.{ads_of}

-- names
abbrev pub name_values : Evaluation → Side → NameValues
name_values e s = looked_up (ads_of e.sides) s e.now e.progress

-- an expression
abbrev pub mean : Evaluation → Side → Tree → Content
mean e s t = tree_value (name_values e s) e.now t

-- a value, and the operators and operands after it
abbrev pub mean_on : Evaluation → Side → Content → Rests → Content
mean_on e s v rs = rests_value (name_values e s) e.now v rs

-- the items of a list, or the arguments of a call
abbrev pub means : Evaluation → Side → Trees → List Content
means e s ts = tree_values (name_values e s) e.now ts
