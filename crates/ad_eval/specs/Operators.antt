-- What operators make of values (HTCondor manual, "ClassAd evaluation semantics"). That a string or
-- a list beside an undefined value gives an error is this project's own choice.
use Rattle.std.specs.Prelude.{◌^◌, ℤ, pos, negsuc, ◌+ℤ◌, ◌-ℤ◌, ◌*ℤ◌, neg_ℤ, int_div, int_rem, Bool, true, false, not, ◌&&◌, nat_lt, if◌then◌else◌}
use Rattle.std.specs.Ordering.{int_eq}
use Rattle.std.specs.Str.{bytes_eq}
use Rattle.std.proofs.Math.Bool.{beq}
use Rattle.ad_value.specs.declared.order.Order.{Order}
use Rattle.ad_value.specs.declared.order.Order.TheVariants as order
use Rattle.ad_value.specs.Content.{Content, Contents, undefined, error, truth, integer, text, items, no_contents, and_content}
use Rattle.ad_value.specs.declared.truth.Truth.{Truth}
use Rattle.ad_value.specs.declared.truth.Truth.TheVariants as is
use Rattle.ad_value.specs.Order.{order_of, number_of}
use Rattle.ad_value.specs.Truth.{truth_of}
use Rattle.ad_tree.specs.declared.operator.UnOp.{UnOp}
use Rattle.ad_tree.specs.declared.operator.UnOp.TheVariants.{Minus, Plus, Not}
use Rattle.ad_tree.specs.declared.operator.BinOp.{BinOp}
use Rattle.ad_tree.specs.declared.operator.BinOp.TheVariants as bin

-- ---- numbers: integers, and truth values counted as 1 or 0

-- within 64 bits, from -2 ^ 63 to 2 ^ 63 - 1; negsuc n is -(n + 1)
abbrev pub is_in_range : ℤ → Bool
is_in_range (pos n) = nat_lt n (2 ^ 63)
is_in_range (negsuc n) = nat_lt n (2 ^ 63)

abbrev pub integer_or_error : ℤ → Content
integer_or_error n = if is_in_range n then integer n else error

-- rounded toward zero
abbrev pub quotient : ℤ → ℤ → Content
quotient a b = if int_eq b (pos 0) then error else integer_or_error (int_div a b)

-- with the sign of the left operand
abbrev pub remainder : ℤ → ℤ → Content
remainder a b = if int_eq b (pos 0) then error else integer (int_rem a b)

abbrev pub arithmetic_value : BinOp → ℤ → ℤ → Content
arithmetic_value bin.Add a b = integer_or_error (a +ℤ b)
arithmetic_value bin.Subtract a b = integer_or_error (a -ℤ b)
arithmetic_value bin.Multiply a b = integer_or_error (a *ℤ b)
arithmetic_value bin.Divide a b = quotient a b
arithmetic_value bin.Modulo a b = remainder a b
arithmetic_value op a b = error

-- an error, a string or a list first, then an undefined value, then the numbers
abbrev pub of_numbers : (ℤ → ℤ → Content) → Content → Content → Content
of_numbers f error b = error
of_numbers f (text s) b = error
of_numbers f (items l) b = error
of_numbers f a error = error
of_numbers f a (text s) = error
of_numbers f a (items l) = error
of_numbers f undefined b = undefined
of_numbers f a undefined = undefined
of_numbers f (truth a) (truth b) = f (number_of a) (number_of b)
of_numbers f (truth a) (integer b) = f (number_of a) b
of_numbers f (integer a) (truth b) = f a (number_of b)
of_numbers f (integer a) (integer b) = f a b

abbrev pub of_number : (ℤ → Content) → Content → Content
of_number f undefined = undefined
of_number f (truth b) = f (number_of b)
of_number f (integer n) = f n
of_number f v = error

-- ---- comparisons

abbrev pub stands : BinOp → Order → Bool
stands bin.Equal order.Equal = true
stands bin.NotEqual order.Less = true
stands bin.NotEqual order.Greater = true
stands bin.Less order.Less = true
stands bin.LessEqual order.Less = true
stands bin.LessEqual order.Equal = true
stands bin.GreaterEqual order.Equal = true
stands bin.GreaterEqual order.Greater = true
stands bin.Greater order.Greater = true
stands op o = false

abbrev pub comparison_result : BinOp → Order → Content
comparison_result op order.Error = error
comparison_result op order.Undefined = undefined
comparison_result op o = truth (stands op o)

-- the same kind and content
abbrev mutual
  pub same : Content → Content → Bool
  same undefined undefined = true
  same error error = true
  same (truth a) (truth b) = beq a b
  same (integer a) (integer b) = int_eq a b
  same (text a) (text b) = bytes_eq a b
  same (items a) (items b) = same_items a b
  same a b = false

  pub same_items : Contents → Contents → Bool
  same_items no_contents no_contents = true
  same_items (and_content a as') (and_content b bs) = same a b && same_items as' bs
  same_items as' bs = false

-- ---- logic, of what values count as

-- false on either side comes first, also beside an error
abbrev pub both : Truth → Truth → Content
both is.False b = truth false
both a is.False = truth false
both is.Error b = error
both a is.Error = error
both is.Undefined b = undefined
both a is.Undefined = undefined
both is.True is.True = truth true

abbrev pub either : Truth → Truth → Content
either is.True b = truth true
either a is.True = truth true
either is.Error b = error
either a is.Error = error
either is.Undefined b = undefined
either a is.Undefined = undefined
either is.False is.False = truth false

abbrev pub negated_value : Truth → Content
negated_value is.True = truth false
negated_value is.False = truth true
negated_value is.Undefined = undefined
negated_value is.Error = error

-- first ?: other
abbrev pub first_defined : Content → Content → Content
first_defined undefined other = other
first_defined first other = first

-- ---- all operators

abbrev pub binary_value : BinOp → Content → Content → Content
binary_value bin.Or a b = either (truth_of a) (truth_of b)
binary_value bin.And a b = both (truth_of a) (truth_of b)
binary_value bin.Same a b = truth (same a b)
binary_value bin.NotSame a b = truth (not (same a b))
binary_value bin.Equal a b = comparison_result bin.Equal (order_of a b)
binary_value bin.NotEqual a b = comparison_result bin.NotEqual (order_of a b)
binary_value bin.Less a b = comparison_result bin.Less (order_of a b)
binary_value bin.LessEqual a b = comparison_result bin.LessEqual (order_of a b)
binary_value bin.GreaterEqual a b = comparison_result bin.GreaterEqual (order_of a b)
binary_value bin.Greater a b = comparison_result bin.Greater (order_of a b)
binary_value bin.Add a b = of_numbers (arithmetic_value bin.Add) a b
binary_value bin.Subtract a b = of_numbers (arithmetic_value bin.Subtract) a b
binary_value bin.Multiply a b = of_numbers (arithmetic_value bin.Multiply) a b
binary_value bin.Divide a b = of_numbers (arithmetic_value bin.Divide) a b
binary_value bin.Modulo a b = of_numbers (arithmetic_value bin.Modulo) a b

abbrev pub unary_value : UnOp → Content → Content
unary_value Minus v = of_number (λ n. integer_or_error (neg_ℤ n)) v
unary_value Plus v = of_number integer v
unary_value Not v = negated_value (truth_of v)
