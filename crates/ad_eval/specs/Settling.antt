-- When the left operand of an operator alone gives the value.
use Rattle.std.specs.Prelude.{◌≡◌, ◌≢◌, true, false, Option, Some, None}
use Rattle.ad_value.specs.declared.truth.Truth.{Truth}
use Rattle.ad_value.specs.declared.truth.Truth.TheVariants as is
use Rattle.ad_value.specs.Content.{Content, error, truth, text, items}
use Rattle.ad_value.specs.Truth.{truth_of}
use Rattle.ad_tree.specs.declared.operator.BinOp.{BinOp}
use Rattle.ad_tree.specs.declared.operator.BinOp.TheVariants as bin
use Rattle.ad_eval.specs.Operators.{binary_value}

abbrev pub when_true : Truth → Option Content
when_true is.True = Some (truth true)
when_true t = None

abbrev pub when_false : Truth → Option Content
when_false is.False = Some (truth false)
when_false t = None

-- what stands to nothing
abbrev pub when_unordered : Content → Option Content
when_unordered error = Some error
when_unordered (items l) = Some error
when_unordered a = None

-- what counts as no number
abbrev pub when_not_counted : Content → Option Content
when_not_counted error = Some error
when_not_counted (text s) = Some error
when_not_counted (items l) = Some error
when_not_counted a = None

-- the value that the left operand gives, where it alone gives one
abbrev pub settled_value : BinOp → Content → Option Content
settled_value bin.Or a = when_true (truth_of a)
settled_value bin.And a = when_false (truth_of a)
settled_value bin.Same a = None
settled_value bin.NotSame a = None
settled_value bin.Equal a = when_unordered a
settled_value bin.NotEqual a = when_unordered a
settled_value bin.Less a = when_unordered a
settled_value bin.LessEqual a = when_unordered a
settled_value bin.GreaterEqual a = when_unordered a
settled_value bin.Greater a = when_unordered a
settled_value bin.Add a = when_not_counted a
settled_value bin.Subtract a = when_not_counted a
settled_value bin.Multiply a = when_not_counted a
settled_value bin.Divide a = when_not_counted a
settled_value bin.Modulo a = when_not_counted a

-- the operator gives v, whatever stands to the right
abbrev pub LeftSettles : BinOp → Content → Content → Type 0
LeftSettles op a v = (b : Content) → binary_value op a b ≡ v

-- two right operands give different values
abbrev pub RightMatters : BinOp → Content → Type 0
RightMatters op a = (b : Content) × ((c : Content) × (binary_value op a b ≢ binary_value op a c))
