-- Values as contracts see them: by their contents.
use Rattle.std.specs.Prelude.{ℕ, List, map, Option, option_map, String}
use Rattle.std.specs.Borrow.{Bor}
use Rattle.std.specs.String.{string_bytes}
use Rattle.ad_value.specs.declared.value.Value.{Value}
use Rattle.ad_value.specs.Content.{Content, content}

-- the arguments of a call, and one that may be left out
abbrev pub arguments : List Value → List Content
arguments vs = map content vs

abbrev pub optional_argument : Option (Bor Value) → Option Content
optional_argument o = option_map (λ v. content v.now) o

-- the bytes of a text, where there is one
abbrev pub optional_bytes : {Z : Type 0} → Option (String Z) → Option (List ℕ)
optional_bytes o = option_map string_bytes o
