-- The functions and their names (HTCondor manual, "ClassAd predefined functions").
use Rattle.std.specs.Prelude.{ℕ, ◌==◌, List, [], ◌∷◌, length, codes, Option}
use Rattle.std.specs.List.{filter, find}
use Rattle.ad_value.specs.Names.{same_name}
use Rattle.ad_func.specs.declared.function.ValueKind.TheVariants as kind
use Rattle.ad_func.specs.declared.function.Function.{Function}
use Rattle.ad_func.specs.declared.function.Function.TheVariants.{Is, IfThenElse, Int, String, Strcat, ToUpper, ToLower, Substr, Size, Member, StringListMember, StringListSize, Strcmp, Stricmp, Time}

abbrev pub function_name : Function → List ℕ
function_name (Is kind.Undefined) = codes "isUndefined"
function_name (Is kind.Error) = codes "isError"
function_name (Is kind.Str) = codes "isString"
function_name (Is kind.Int) = codes "isInteger"
function_name (Is kind.Bool) = codes "isBoolean"
function_name (Is kind.List) = codes "isList"
function_name IfThenElse = codes "ifThenElse"
function_name Int = codes "int"
function_name String = codes "string"
function_name Strcat = codes "strcat"
function_name ToUpper = codes "toUpper"
function_name ToLower = codes "toLower"
function_name Substr = codes "substr"
function_name Size = codes "size"
function_name Member = codes "member"
function_name StringListMember = codes "stringListMember"
function_name StringListSize = codes "stringListSize"
function_name Strcmp = codes "strcmp"
function_name Stricmp = codes "stricmp"
function_name Time = codes "time"

abbrev pub functions : List Function
functions =
    Is kind.Undefined ∷ Is kind.Error ∷ Is kind.Str ∷ Is kind.Int ∷ Is kind.Bool
    ∷ Is kind.List ∷ IfThenElse ∷ Int ∷ String ∷ Strcat ∷ ToUpper ∷ ToLower ∷ Substr ∷ Size
    ∷ Member ∷ StringListMember ∷ StringListSize ∷ Strcmp ∷ Stricmp ∷ Time ∷ []

-- those whose names have so many bytes
abbrev pub functions_of_length : ℕ → List Function
functions_of_length n = filter (λ f. length (function_name f) == n) functions

-- names are without ASCII case
abbrev pub function_named : List ℕ → Option Function
function_named name = find (λ f. same_name (function_name f) name) functions
