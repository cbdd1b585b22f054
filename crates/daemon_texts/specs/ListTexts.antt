-- The texts of lists, each element behind a tab (9).
use Rattle.std.specs.Prelude.{ℕ, List, ◌∷◌, ◌++◌, decimal, length}
use Rattle.std.specs.List.{flat_map}
use Rattle.claim_id.specs.declared.numbers.RunNo.{RunNo}
use Rattle.daemon_texts.specs.NumberTexts.{run_text}

abbrev pub behind_tabs : {X : Type 0} → (X → List ℕ) → List X → List ℕ
behind_tabs text xs = flat_map (λ x. 9 ∷ text x) xs

-- how many runs there are, and each
abbrev pub runs_text : List RunNo → List ℕ
runs_text runs = (9 ∷ decimal (length runs)) ++ behind_tabs run_text runs
