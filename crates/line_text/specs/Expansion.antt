-- The expansion of a text: each reference is replaced by what its name stands for, which is
-- expanded in its turn (HTCondor manual, "Submit file macros").
use Rattle.std.specs.Prelude.{◌≡◌, ◌≤◌, ℕ, ◌+◌, ◌-◌, ◌==◌, ◌||◌, nat_lt, Bool, true, false, List, [], ◌∷◌, ◌++◌, length, Option, Some, None, option_map, unwrap_or, if◌then◌else◌}
use Rattle.ad_value.specs.Names.{lowercase}
use Rattle.line_text.specs.declared.error.MacroError.{MacroError}
use Rattle.line_text.specs.declared.error.MacroError.TheVariants as fault
use Rattle.line_text.specs.declared.expansion.TheConstants.{MAX_EXPANSION}
use Rattle.line_text.specs.Macros.{Macros, find_macro}
use Rattle.line_text.specs.References.{ended, broken, refers, stretch, past_stretch, following}

-- ---- what is written, piece by piece

-- a piece of plain text; an empty one is none
abbrev pub piece : List ℕ → List (List ℕ)
piece [] = []
piece (b ∷ bs) = (b ∷ bs) ∷ []

abbrev pub joined : List (List ℕ) → List ℕ
joined [] = []
joined (s ∷ ss) = s ++ joined ss

abbrev pub total : List (List ℕ) → ℕ
total [] = 0
total (s ∷ ss) = length s + total ss

-- how long the text is at the first piece that brings it above the limit
abbrev pub first_above : ℕ → List (List ℕ) → Option ℕ
first_above n [] = None
first_above n (s ∷ ss) =
    if nat_lt MAX_EXPANSION (n + length s) then Some (n + length s)
    else first_above (n + length s) ss

-- ---- what a name stands for

-- the place of a name, without case, and its value
abbrev pub macro_of : Macros → List ℕ → Option (ℕ × List ℕ)
macro_of t name = find_macro (lowercase name) t

-- the value of the name, or the default text where it is not set
abbrev pub put_in : Macros → List ℕ → List ℕ → List ℕ
put_in t name default = unwrap_or (option_map (λ m. m.1) (macro_of t name)) default

-- A text is expanded whole: these pieces are written. No name stands within its own expansion,
-- since an expansion is made in finitely many steps.
pub data Expands (t : Macros) : List ℕ → List (List ℕ) → Type 0 where
  plain : {text : List ℕ} → following text ≡ ended → Expands t text (piece (stretch text))
  replaced : {text name default rest : List ℕ} {ss ts : List (List ℕ)}
      → following text ≡ refers name default rest
      → Expands t (put_in t name default) ss → Expands t rest ts
      → Expands t text (piece (stretch text) ++ (ss ++ ts))

-- ---- how far an expansion comes

abbrev pub contains : ℕ → List ℕ → Bool
contains p [] = false
contains p (q ∷ around) = (p == q) || contains p around

-- Left to right these pieces are written first, of a text that is what is left of a whole one; and
-- where the last argument has a refusal, it is met next. The names in whose expansion the text
-- stands are open; they are told by their places.
pub data Reaches (t : Macros)
    : List ℕ → List ℕ → List ℕ → List (List ℕ) → Option MacroError → Type 0 where
  begun : {around whole text : List ℕ} → Reaches t around whole text (piece (stretch text)) None
  misread : {around whole text : List ℕ} → following text ≡ broken
      → Reaches t around whole text (piece (stretch text))
      (Some (fault.Bad (length whole - length (past_stretch text))))
  circle : {around whole text name default rest value : List ℕ} {p : ℕ}
      → following text ≡ refers name default rest → macro_of t name ≡ Some (p, value)
      → contains p around ≡ true
      → Reaches t around whole text (piece (stretch text)) (Some (fault.Circular name))
  within : {around whole text name default rest value : List ℕ} {p : ℕ}
      {ss : List (List ℕ)} {stop : Option MacroError}
      → following text ≡ refers name default rest → macro_of t name ≡ Some (p, value)
      → contains p around ≡ false → Reaches t (p ∷ around) value value ss stop
      → Reaches t around whole text (piece (stretch text) ++ ss) stop
  within_default : {around whole text name default rest : List ℕ}
      {ss : List (List ℕ)} {stop : Option MacroError}
      → following text ≡ refers name default rest → macro_of t name ≡ None
      → Reaches t around default default ss stop
      → Reaches t around whole text (piece (stretch text) ++ ss) stop
  behind : {around whole text name default rest : List ℕ}
      {ss ts : List (List ℕ)} {stop : Option MacroError}
      → following text ≡ refers name default rest → Expands t (put_in t name default) ss
      → Reaches t around whole rest ts stop
      → Reaches t around whole text (piece (stretch text) ++ (ss ++ ts)) stop

-- ---- the result

-- the text that is written, where it is not above the limit
pub record IsExpansion (t : Macros) (text result : List ℕ) : Type 0 where
  pub pieces : List (List ℕ)
  pub written : Expands t text pieces
  pub is : result ≡ joined pieces
  pub fits : length result ≤ MAX_EXPANSION

-- the refusal that is met, what is written before it being not above the limit
pub record Meets (t : Macros) (text : List ℕ) (error : MacroError) : Type 0 where
  pub pieces : List (List ℕ)
  pub reached : Reaches t [] text text pieces (Some error)
  pub fits : total pieces ≤ MAX_EXPANSION

-- the limit is passed at a piece that is reached
pub record Passes (t : Macros) (text : List ℕ) (length : ℕ) : Type 0 where
  pub pieces : List (List ℕ)
  pub stop : Option MacroError
  pub reached : Reaches t [] text text pieces stop
  pub above : first_above 0 pieces ≡ Some length

-- why a text has no expansion; out of memory is free
abbrev pub IsRefused : Macros → List ℕ → MacroError → Type 0
IsRefused t text (fault.Bad at) = Meets t text (fault.Bad at)
IsRefused t text (fault.Circular name) = Meets t text (fault.Circular name)
IsRefused t text (fault.TooLong length) = Passes t text length
IsRefused t text fault.Memory = Unit {0}
