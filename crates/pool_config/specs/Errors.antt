-- What a function gives that may run out of memory.
use Rattle.std.specs.Prelude.{◌≡◌, Result, Ok, Err}
use Rattle.pool_config.specs.declared.error.ConfigError.{ConfigError}
use Rattle.pool_config.specs.declared.error.ConfigError.TheVariants as error

-- it holds of the result, unless memory runs out
abbrev pub UnlessMemory : {X : Type 0}
    → (Result X ConfigError → Type 0) → Result X ConfigError → Type 0
UnlessMemory P (Ok x) = P (Ok x)
UnlessMemory P (Err error.Memory) = Unit {0}
UnlessMemory P (Err (error.BadLine n)) = P (Err (error.BadLine n))
UnlessMemory P (Err (error.Unknown n)) = P (Err (error.Unknown n))
UnlessMemory P (Err (error.BadValue n)) = P (Err (error.BadValue n))
UnlessMemory P (Err (error.Macro n f)) = P (Err (error.Macro n f))
UnlessMemory P (Err (error.Machines n)) = P (Err (error.Machines n))
UnlessMemory P (Err (error.Slots n)) = P (Err (error.Slots n))
UnlessMemory P (Err (error.Full n)) = P (Err (error.Full n))
UnlessMemory P (Err error.NoMachine) = P (Err error.NoMachine)

-- what comes of a value that is changed in place
abbrev pub changed_to : {X : Type 0} → X → Result (Unit {0}) ConfigError → Result X ConfigError
changed_to new (Ok x) = Ok new
changed_to new (Err f) = Err f

-- it becomes what is given, or is refused as is given, unless memory runs out
abbrev pub Becomes : {X : Type 0}
    → X → Result (Unit {0}) ConfigError → Result X ConfigError → Type 0
Becomes new r given = UnlessMemory (λ q. q ≡ given) (changed_to new r)
