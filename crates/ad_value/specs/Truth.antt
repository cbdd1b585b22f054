-- What a value counts as where a truth value is asked for (HTCondor manual, "ClassAd evaluation
-- semantics"). That strings and lists count as errors is this project's own choice.
use Rattle.std.specs.Prelude.{pos, if◌then◌else◌}
use Rattle.std.specs.Ordering.{int_eq}
use Rattle.ad_value.specs.declared.truth.Truth.{Truth}
use Rattle.ad_value.specs.declared.truth.Truth.TheVariants as is
use Rattle.ad_value.specs.Content.{Content, undefined, error, truth, integer}

-- a number is true where it is not 0
abbrev pub truth_of : Content → Truth
truth_of undefined = is.Undefined
truth_of (truth b) = if b then is.True else is.False
truth_of (integer n) = if int_eq n (pos 0) then is.False else is.True
truth_of v = is.Error

-- the test of a choice, and the two values
abbrev pub chosen_value : Truth → Content → Content → Content
chosen_value is.True y n = y
chosen_value is.False y n = n
chosen_value is.Undefined y n = undefined
chosen_value is.Error y n = error
