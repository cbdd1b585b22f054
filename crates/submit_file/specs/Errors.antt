-- Refusals and their lines.
use Rattle.std.specs.Prelude.{◌≡◌, ◌≢◌, ℕ, nat_lt, Bool, true, false, List, Option, Some, None, Result, Ok, Err, if◌then◌else◌}
use Rattle.line_text.specs.declared.error.MacroError.{MacroError}
use Rattle.line_text.specs.declared.error.MacroError.TheVariants as macro
use Rattle.line_text.specs.Macros.{Macros}
use Rattle.line_text.specs.Expansion.{IsExpansion, IsRefused}
use Rattle.submit_lines.specs.declared.error.ValueError.{ValueError}
use Rattle.submit_lines.specs.declared.error.ValueError.TheVariants as value
use Rattle.submit_file.specs.declared.draft.Place.{Place}
use Rattle.submit_file.specs.declared.error.SubmitError.{SubmitError}
use Rattle.submit_file.specs.declared.error.SubmitError.TheVariants as error

abbrev pub line_of : SubmitError → ℕ
line_of (error.BadLine n) = n
line_of (error.Unsupported n) = n
line_of (error.Universe n) = n
line_of (error.NoExecutable n) = n
line_of (error.BadExpr n) = n
line_of (error.Count n) = n
line_of (error.Full n) = n
line_of (error.Macro n f) = n
line_of error.NoQueue = 0
line_of error.Memory = 0

abbrev pub is_memory : SubmitError → Bool
is_memory error.Memory = true
is_memory _ = false

abbrev pub IsNoMemory : SubmitError → Type 0
IsNoMemory f = is_memory f ≡ false

-- the one whose line is less
abbrev pub is_before : SubmitError → Option SubmitError → Bool
is_before f None = true
is_before f (Some g) = nat_lt (line_of f) (line_of g)

abbrev pub earlier : SubmitError → Option SubmitError → Option SubmitError
earlier f g = if is_before f g then Some f else g

-- a value's refusal is one of its line, and a missing program one of the queue statement
abbrev pub error_at : ValueError → Place → SubmitError
error_at value.NoExecutable p = error.NoExecutable p.statement
error_at value.Universe p = error.Universe p.line
error_at value.Quotes p = error.BadLine p.line
error_at value.BadExpr p = error.BadExpr p.line
error_at value.Memory p = error.Memory

-- a text of a line with its macros replaced, or why they can't be
pub data Replaced (t : Macros) (text : List ℕ) (n : ℕ) : Result (List ℕ) SubmitError → Type 0 where
  replaced : {x : List ℕ} → IsExpansion t text x → Replaced t text n (Ok x)
  refused : {f : MacroError} → IsRefused t text f → f ≢ macro.Memory
      → Replaced t text n (Err (error.Macro n f))

-- what a function gives, unless memory runs out
abbrev pub UnlessMemory : {X : Type 0}
    → (Result X SubmitError → Type 0) → Result X SubmitError → Type 0
UnlessMemory P (Ok x) = P (Ok x)
UnlessMemory P (Err error.Memory) = Unit {0}
UnlessMemory P (Err (error.BadLine n)) = P (Err (error.BadLine n))
UnlessMemory P (Err (error.Unsupported n)) = P (Err (error.Unsupported n))
UnlessMemory P (Err (error.Universe n)) = P (Err (error.Universe n))
UnlessMemory P (Err (error.NoExecutable n)) = P (Err (error.NoExecutable n))
UnlessMemory P (Err (error.BadExpr n)) = P (Err (error.BadExpr n))
UnlessMemory P (Err (error.Count n)) = P (Err (error.Count n))
UnlessMemory P (Err (error.Full n)) = P (Err (error.Full n))
UnlessMemory P (Err (error.Macro n f)) = P (Err (error.Macro n f))
UnlessMemory P (Err error.NoQueue) = P (Err error.NoQueue)
