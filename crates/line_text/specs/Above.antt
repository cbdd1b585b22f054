-- What is written, and when a piece would bring it above the limit.
use Rattle.std.specs.Prelude.{◌≡◌, ◌<◌, ℕ, ◌-◌, List, take, drop, map, Some}
use Rattle.std.specs.Borrow.{Bor}
use Rattle.line_text.specs.declared.error.MacroError.{MacroError}
use Rattle.line_text.specs.declared.error.MacroError.TheVariants as fault
use Rattle.line_text.specs.declared.expansion.TheConstants.{MAX_EXPANSION}
use Rattle.line_text.specs.Expansion.{first_above}

abbrev pub texts : List (Bor (List ℕ)) → List (List ℕ)
texts ps = map (λ p. p.now) ps

-- the pieces between two places
abbrev pub between : ℕ → ℕ → List (List ℕ) → List (List ℕ)
between from to written = take (to - from) (drop from written)

-- one piece more would bring the text above the limit
abbrev pub IsAbove : ℕ → MacroError → Type 0
IsAbove n (fault.TooLong length) = (length ≡ n) × (MAX_EXPANSION < n)
IsAbove n fault.Memory = Unit {0}
IsAbove n (fault.Bad at) = ⊥
IsAbove n (fault.Circular name) = ⊥

-- one of the pieces would
abbrev pub OneIsAbove : ℕ → List (List ℕ) → MacroError → Type 0
OneIsAbove n ss (fault.TooLong length) = first_above n ss ≡ Some length
OneIsAbove n ss fault.Memory = Unit {0}
OneIsAbove n ss (fault.Bad at) = ⊥
OneIsAbove n ss (fault.Circular name) = ⊥
