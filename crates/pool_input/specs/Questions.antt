-- What a lone word of the command asks for.
use Rattle.std.specs.Prelude.{◌≡◌, ◌⊎◌, ℕ, List, [], ◌∷◌, codes}
use Rattle.pool_input.specs.declared.question.Question.{Question}
use Rattle.pool_input.specs.declared.question.Question.TheVariants.{Help, Version}

abbrev pub Asks : Question → List ℕ → Type 0
Asks Help word = (word ≡ codes "--help") ⊎ (word ≡ codes "-h")
Asks Version word = (word ≡ codes "--version") ⊎ (word ≡ codes "-V")

abbrev pub AsksNothing : List ℕ → Type 0
AsksNothing word = (question : Question) → Asks question word → ⊥

-- there is one word, and it asks for that
abbrev pub AsksAlone : Question → List (List ℕ) → Type 0
AsksAlone question (word ∷ []) = Asks question word
AsksAlone question words = ⊥

abbrev pub IsNoQuestion : List (List ℕ) → Type 0
IsNoQuestion words = (question : Question) → AsksAlone question words → ⊥
