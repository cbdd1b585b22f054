-- How many arguments a function takes, and what an error or an undefined one among them gives.
use Rattle.std.specs.Prelude.{Bool, true, false, List, [], ◌∷◌, Option, Some, None, if◌then◌else◌}
use Rattle.std.specs.List.{list_any}
use Rattle.ad_value.specs.Content.{Content, undefined, error}

abbrev pub is_error : Content → Bool
is_error error = true
is_error v = false

abbrev pub is_undefined : Content → Bool
is_undefined undefined = true
is_undefined v = false

-- an error among the arguments comes first, then an undefined one, and then the value
abbrev pub strict : List Content → Content → Content
strict args v =
    if list_any is_error args then error
    else (if list_any is_undefined args then undefined else v)

-- a wrong count of arguments is an error
abbrev pub with_none : Content → List Content → Content
with_none v [] = v
with_none v args = error

abbrev pub with_one : (Content → Content) → List Content → Content
with_one f (x ∷ []) = strict (x ∷ []) (f x)
with_one f args = error

abbrev pub with_two : (Content → Content → Content) → List Content → Content
with_two f (x ∷ y ∷ []) = strict (x ∷ y ∷ []) (f x y)
with_two f args = error

abbrev pub with_three : (Content → Content → Content → Content) → List Content → Content
with_three f (x ∷ y ∷ z ∷ []) = strict (x ∷ y ∷ z ∷ []) (f x y z)
with_three f args = error

-- the last argument may be left out
abbrev pub with_one_or_two : (Content → Option Content → Content) → List Content → Content
with_one_or_two f (x ∷ []) = with_one (λ a. f a None) (x ∷ [])
with_one_or_two f args = with_two (λ a b. f a (Some b)) args

abbrev pub with_two_or_three :
    (Content → Content → Option Content → Content) → List Content → Content
with_two_or_three f (x ∷ y ∷ []) = with_two (λ a b. f a b None) (x ∷ y ∷ [])
with_two_or_three f args = with_three (λ a b c. f a b (Some c)) args
