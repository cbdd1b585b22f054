-- What the lines of a file have set so far.
use Rattle.std.specs.Prelude.{ℕ, List, [], ◌∷◌, Option, find, map, if◌then◌else◌}
use Rattle.ad_value.specs.Names.{lowercase, same_name}
use Rattle.submit_file.specs.declared.setting.Setting.{Setting}

-- a name that is there keeps its place and spelling, and a new one comes last
abbrev pub with_setting : List ℕ → List ℕ → ℕ → List Setting → List Setting
with_setting x v n [] = record { name = x; value = v; line = n } ∷ []
with_setting x v n (s ∷ ss) =
    if same_name s.name x then record { name = s.name; value = v; line = n } ∷ ss
    else s ∷ with_setting x v n ss

abbrev pub setting_of : List ℕ → List Setting → Option Setting
setting_of x ss = find (λ s. same_name s.name x) ss

abbrev pub lowercase_names : List Setting → List (List ℕ)
lowercase_names ss = map (λ s. lowercase s.name) ss
