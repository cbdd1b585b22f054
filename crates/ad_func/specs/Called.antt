-- The value of a call, function by function (HTCondor manual, "ClassAd predefined functions").
use Rattle.std.specs.Prelude.{ℕ, List, Option, Some, None}
use Rattle.ad_func.specs.declared.function.Function.{Function}
use Rattle.ad_func.specs.declared.function.Function.TheVariants.{Is, IfThenElse, Int, String, Strcat, ToUpper, ToLower, Substr, Size, Member, StringListMember, StringListSize, Strcmp, Stricmp, Time}
use Rattle.ad_value.specs.Content.{Content, error, text}
use Rattle.ad_func.specs.Function.{function_named}
use Rattle.ad_func.specs.Arguments.{with_none, with_one, with_two, with_one_or_two, with_two_or_three}
use Rattle.ad_func.specs.Kinds.{kind_test, if_then_else}
use Rattle.ad_func.specs.Numbers.{int_of, size_of, time_of}
use Rattle.ad_func.specs.Texts.{of_string, strcat, upper, lower, substr, strcmp, stricmp}
use Rattle.ad_func.specs.Lists.{member, string_list_member, string_list_size}

abbrev pub function_value : Function → List Content → ℕ → Content
function_value (Is k) args now = kind_test k args
function_value IfThenElse args now = if_then_else args
function_value Int args now = with_one int_of args
function_value String args now = with_one (of_string text) args
function_value Strcat args now = strcat args
function_value ToUpper args now = with_one (of_string upper) args
function_value ToLower args now = with_one (of_string lower) args
function_value Substr args now = with_two_or_three substr args
function_value Size args now = with_one size_of args
function_value Member args now = with_two member args
function_value StringListMember args now = with_two_or_three string_list_member args
function_value StringListSize args now = with_one_or_two string_list_size args
function_value Strcmp args now = with_two strcmp args
function_value Stricmp args now = with_two stricmp args
function_value Time args now = with_none (time_of now) args

-- an unknown name is an error
abbrev pub found_function_value : Option Function → List Content → ℕ → Content
found_function_value None args now = error
found_function_value (Some f) args now = function_value f args now

abbrev pub call_value : List ℕ → List Content → ℕ → Content
call_value name args now = found_function_value (function_named name) args now
