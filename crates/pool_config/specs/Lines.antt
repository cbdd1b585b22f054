-- What the lines of a configuration say: `NAME = value`, with macros over the names set before.
use Rattle.std.specs.Prelude.{◌≡◌, ◌≢◌, ℕ, true, false, List, [], ◌∷◌, ◌++◌, Some, None, Result, Ok, Err}
use Rattle.ad_value.specs.Names.{lowercase}
use Rattle.line_text.specs.declared.error.MacroError.{MacroError}
use Rattle.line_text.specs.declared.error.MacroError.TheVariants as macro
use Rattle.line_text.specs.declared.logical.Line.{Line}
use Rattle.line_text.specs.Expansion.{IsExpansion, IsRefused}
use Rattle.line_text.specs.Lines.{logical_lines}
use Rattle.line_text.specs.Macros.{Macros, with_macro}
use Rattle.pool_config.specs.declared.error.ConfigError.{ConfigError}
use Rattle.pool_config.specs.declared.error.ConfigError.TheVariants as error
use Rattle.pool_config.specs.Configuration.{Configuration, ConfiguredMachine, plain_configuration}
use Rattle.pool_config.specs.Keys.{Sets}
use Rattle.pool_config.specs.Names.{name_sets, setting_in}
use Rattle.pool_config.specs.Settings.{SoFar, is_homeless, set_to, whole}

-- what the lines have set, and the names that they have set as macros
pub record LinesSoFar : Type 0 where
  pub settings : SoFar
  pub table : Macros

-- a name that is set is a macro too
abbrev pub and_macro : List ℕ → List ℕ → Macros → Result SoFar ConfigError
    → Result LinesSoFar ConfigError
and_macro name x t (Ok s) = Ok (record { settings = s; table = with_macro (lowercase name) x t })
and_macro name x t (Err f) = Err f

-- why a value in line n has no expansion
abbrev pub macro_fault : ℕ → MacroError → ConfigError
macro_fault n macro.Memory = error.Memory
macro_fault n (macro.Bad at) = error.Macro n (macro.Bad at)
macro_fault n (macro.Circular x) = error.Macro n (macro.Circular x)
macro_fault n (macro.TooLong l) = error.Macro n (macro.TooLong l)

-- a value of a name, with its macros replaced or not, is taken or refused
pub data TakesValue (r : LinesSoFar) (n : ℕ) (k : Sets) (name value : List ℕ)
    : Result LinesSoFar ConfigError → Type 0 where
  no_expansion : {f : MacroError} → IsRefused r.table value f → f ≢ macro.Memory
      → TakesValue r n k name value (Err (error.Macro n f))
  expanded : {x : List ℕ} → IsExpansion r.table value x
      → TakesValue r n k name value (and_macro name x r.table (set_to k x n r.settings))

-- a name that sets what it sets is taken with its value, or refused
pub data TakesKey (r : LinesSoFar) (n : ℕ) (k : Sets) (name value : List ℕ)
    : Result LinesSoFar ConfigError → Type 0 where
  homeless : is_homeless k r.settings ≡ true
      → TakesKey r n k name value (Err (error.BadLine n))
  takes : {q : Result LinesSoFar ConfigError} → is_homeless k r.settings ≡ false
      → TakesValue r n k name value q → TakesKey r n k name value q

-- a name and a value of line n
pub data TakesSetting (r : LinesSoFar) (n : ℕ) (name value : List ℕ)
    : Result LinesSoFar ConfigError → Type 0 where
  unknown : name_sets name ≡ None → TakesSetting r n name value (Err (error.Unknown n))
  known : {k : Sets} {q : Result LinesSoFar ConfigError} → name_sets name ≡ Some k
      → TakesKey r n k name value q → TakesSetting r n name value q

-- a line is taken or refused
pub data TakesLine (r : LinesSoFar) (l : Line) : Result LinesSoFar ConfigError → Type 0 where
  no_setting : setting_in l.text ≡ None → TakesLine r l (Err (error.BadLine l.number))
  sets : {name value : List ℕ} {q : Result LinesSoFar ConfigError}
      → setting_in l.text ≡ Some (name, value) → TakesSetting r l.number name value q
      → TakesLine r l q

abbrev pub ReadResult : Type 0
ReadResult = Result Configuration ConfigError

-- from a line on: the first line that is refused is the refusal
pub data Reads : List Line → LinesSoFar → ReadResult → Type 0 where
  ended : {r : LinesSoFar} {m : ConfiguredMachine} → r.settings.last ≡ Some m
      → Reads [] r (Ok (whole r.settings))
  no_machine : {r : LinesSoFar} → r.settings.last ≡ None → Reads [] r (Err error.NoMachine)
  refuses : {r : LinesSoFar} {l : Line} {ls : List Line} {f : ConfigError}
      → TakesLine r l (Err f) → Reads (l ∷ ls) r (Err f)
  and_line : {r s : LinesSoFar} {l : Line} {ls : List Line} {q : ReadResult}
      → TakesLine r l (Ok s) → Reads ls s q → Reads (l ∷ ls) r q

-- nothing is set
abbrev pub begun : LinesSoFar
begun = record { settings = record { config = plain_configuration; last = None }; table = [] }

-- what a text says: a configuration, or why it is none
abbrev pub IsConfiguration : List ℕ → ReadResult → Type 0
IsConfiguration text q = Reads (logical_lines text) begun q

-- A part of the lines is taken: what comes of the rest comes of all, and its refusal is that of
-- all.
abbrev pub TakesLines : List Line → LinesSoFar → Result LinesSoFar ConfigError → Type 0
TakesLines ls r (Ok s) = (rest : List Line) (q : ReadResult)
    → Reads rest s q → Reads (ls ++ rest) r q
TakesLines ls r (Err f) = (rest : List Line) → Reads (ls ++ rest) r (Err f)
