-- How two values stand to each other (HTCondor manual, "ClassAd evaluation semantics",
-- comparisons).
use Rattle.std.specs.Prelude.{ℕ, ℤ, pos, Bool, true, false, List, int_lt, if◌then◌else◌, chars, encode_utf8_all}
use Rattle.std.specs.Ordering.{nat_cmp, int_eq}
use Rattle.std.specs.Cmp.Lexicographic.{slice_cmp}
use Rattle.std.specs.declared.cmp.Ordering.{Ordering}
use Rattle.std.specs.declared.cmp.Ordering.TheVariants as ordering
use Rattle.caseless.specs.Caseless.{default_case_fold}
use Rattle.ad_value.specs.declared.order.Order.{Order}
use Rattle.ad_value.specs.declared.order.Order.TheVariants as order
use Rattle.ad_value.specs.Content.{Content, undefined, error, truth, integer, text, items}

-- the bytes of a text after default case folding
abbrev pub folded_text : List ℕ → List ℕ
folded_text bytes = encode_utf8_all (default_case_fold (chars bytes))

abbrev pub number_order : ℤ → ℤ → Order
number_order a b =
    if int_lt a b then order.Less
    else (if int_eq a b then order.Equal
    else order.Greater)

abbrev pub as_order : Ordering → Order
as_order ordering.Less = order.Less
as_order ordering.Equal = order.Equal
as_order ordering.Greater = order.Greater

-- texts stand as the bytes of their foldings
abbrev pub folded_order : List ℕ → List ℕ → Ordering
folded_order a b = slice_cmp nat_cmp (folded_text a) (folded_text b)

abbrev pub text_order : List ℕ → List ℕ → Order
text_order a b = as_order (folded_order a b)

-- a truth value counts 1 or 0
abbrev pub number_of : Bool → ℤ
number_of true = pos 1
number_of false = pos 0

-- errors and lists first, then undefined values, then a text against a number
abbrev pub order_of : Content → Content → Order
order_of error b = order.Error
order_of (items l) b = order.Error
order_of a error = order.Error
order_of a (items l) = order.Error
order_of undefined b = order.Undefined
order_of a undefined = order.Undefined
order_of (text a) (text b) = text_order a b
order_of (text a) b = order.Error
order_of a (text b) = order.Error
order_of (truth a) (truth b) = number_order (number_of a) (number_of b)
order_of (truth a) (integer b) = number_order (number_of a) b
order_of (integer a) (truth b) = number_order a (number_of b)
order_of (integer a) (integer b) = number_order a b
