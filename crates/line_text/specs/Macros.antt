-- Macros as a list of names and values.
use Rattle.std.specs.Prelude.{ℕ, List, [], ◌∷◌, Option, position, option_map, unwrap_or, slice_get, map, String, string_bytes, if◌then◌else◌}
use Rattle.std.specs.Str.{bytes_eq}

-- names in lower case, and their values
abbrev pub Macros : Type 0
Macros = List (List ℕ × List ℕ)

-- the texts of a table's entries
abbrev pub macros_of : {A : Type 0} → List (String A × List ℕ) → Macros
macros_of es = map (λ e. (string_bytes e.0, e.1)) es

-- a name that is there keeps its place, and a new one comes last
abbrev pub with_macro : List ℕ → List ℕ → Macros → Macros
with_macro x v [] = (x, v) ∷ []
with_macro x v (m ∷ ms) = if bytes_eq x m.0 then (m.0, v) ∷ ms else m ∷ with_macro x v ms

abbrev pub names : Macros → List (List ℕ)
names ms = map (λ m. m.0) ms

-- the place of a name in lower case
abbrev pub place_of : List ℕ → Macros → Option ℕ
place_of x ms = position (bytes_eq x) (names ms)

-- the value at a place
abbrev pub value_at : Macros → ℕ → List ℕ
value_at ms p = unwrap_or (option_map (λ m. m.1) (slice_get ms p)) []

-- the place of a name in lower case, and its value
abbrev pub find_macro : List ℕ → Macros → Option (ℕ × List ℕ)
find_macro x ms = option_map (λ p. (p, value_at ms p)) (place_of x ms)
