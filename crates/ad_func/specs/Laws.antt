-- What holds of the table of functions as a whole.
use Rattle.std.specs.Prelude.{◌≡◌, ◌↔◌, ℕ, List, Some, IsTrue}
use Rattle.ad_value.specs.Names.{same_name}
use Rattle.ad_func.specs.declared.function.Function.{Function}
use Rattle.ad_func.specs.Function.{function_name, function_named}

-- a text names a function exactly where it is its name without case
abbrev pub NamesFunction : List ℕ → Function → Type 0
NamesFunction x f = (function_named x ≡ Some f) ↔ IsTrue (same_name (function_name f) x)
