-- Matches that come to a list one by one.
use Rattle.std.specs.Prelude.{◌≡◌, ◌⊎◌, List, [], ◌∷◌, ◌++◌}
use Rattle.pool_mail.specs.declared.matching.Match.{Match}

-- the match comes to the end of the others where that holds
abbrev pub IsPushed : Type 0 → Match → List Match → List Match → Type 0
IsPushed Holds m old new = (Holds × (new ≡ old ++ m ∷ [])) ⊎ ((¬ Holds) × (new ≡ old))
