use Rattle.std.specs.Prelude.{◌≡◌, ◌⊎◌, ℕ}
use Rattle.cases.specs.declared.error.CaseError.{CaseError}
use Rattle.cases.specs.declared.error.CaseError.TheVariants.{Fields, Escape, Text, Number, Memory}

-- what may be wrong, and at which line

abbrev pub IsMemory : CaseError → Type 0
IsMemory e = e ≡ Memory

abbrev pub IsFieldsAt : ℕ → CaseError → Type 0
IsFieldsAt line e = e ≡ Fields line

abbrev pub IsNumberAt : ℕ → CaseError → Type 0
IsNumberAt line e = e ≡ Number line

abbrev pub IsEscapeAt : ℕ → CaseError → Type 0
IsEscapeAt line e = (e ≡ Escape line) ⊎ (e ≡ Memory)

abbrev pub IsTextAt : ℕ → CaseError → Type 0
IsTextAt line e = (e ≡ Text line) ⊎ ((e ≡ Escape line) ⊎ (e ≡ Memory))
