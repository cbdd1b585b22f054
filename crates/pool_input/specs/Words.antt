-- The words of the command.
use Rattle.std.specs.Prelude.{◌≡◌, ◌==◌, ℕ, Bool, true, false, not, List, [], ◌∷◌, codes, map, String, string_bytes}
use Rattle.std.specs.Borrow.{Bor}
use Rattle.std.specs.declared.alloc.Global.{Global}
use Rattle.std.specs.List.{list_all}

-- not empty, and doesn't begin with `-`
abbrev pub is_plain : List ℕ → Bool
is_plain [] = false
is_plain (first ∷ rest) = not (first == 45)

-- `run`, a configuration and submit files
pub record IsRun (words : List (List ℕ)) (config : List ℕ) (submits : List (List ℕ)) : Type 0 where
  pub is : words ≡ codes "run" ∷ config ∷ submits
  pub config_is : is_plain config ≡ true
  pub submits_are : list_all is_plain submits ≡ true

-- the words aren't of the form
abbrev pub IsNoRun : List (List ℕ) → Type 0
IsNoRun words = (config : List ℕ) (submits : List (List ℕ)) → IsRun words config submits → ⊥

-- the words are of the form
abbrev pub IsOfForm : List (List ℕ) → Type 0
IsOfForm words = (config : List ℕ) × ((submits : List (List ℕ)) × IsRun words config submits)

abbrev pub texts : List (String Global) → List (List ℕ)
texts words = map string_bytes words

abbrev pub file_names : List (Bor (List ℕ)) → List (List ℕ)
file_names files = map (λ file. file.now) files
