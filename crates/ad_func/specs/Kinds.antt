-- Tests of a value's kind, and the choice.
use Rattle.std.specs.Prelude.{Bool, true, false, List, [], ◌∷◌}
use Rattle.ad_func.specs.declared.function.ValueKind.{ValueKind}
use Rattle.ad_func.specs.declared.function.ValueKind.TheVariants as kind
use Rattle.ad_value.specs.Content.{Content, undefined, error, truth, integer, text, items}
use Rattle.ad_value.specs.Truth.{truth_of, chosen_value}

abbrev pub is_of_kind : ValueKind → Content → Bool
is_of_kind kind.Undefined undefined = true
is_of_kind kind.Error error = true
is_of_kind kind.Str (text s) = true
is_of_kind kind.Int (integer n) = true
is_of_kind kind.Bool (truth b) = true
is_of_kind kind.List (items l) = true
is_of_kind k v = false

abbrev pub kind_test : ValueKind → List Content → Content
kind_test k (x ∷ []) = truth (is_of_kind k x)
kind_test k args = error

-- as the conditional operator; what is not chosen has no part in the value
abbrev pub if_then_else : List Content → Content
if_then_else (c ∷ a ∷ b ∷ []) = chosen_value (truth_of c) a b
if_then_else args = error
