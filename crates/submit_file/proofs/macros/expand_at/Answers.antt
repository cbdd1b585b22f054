use Rattle.std.proofs.Common.{◌≡◌, ℕ, List, Err, subst}
use Rattle.line_text.specs.declared.error.MacroError.{MacroError}
use Rattle.line_text.specs.declared.error.MacroError.TheVariants as macro
use Rattle.line_text.specs.Expansion.{IsRefused}
use Rattle.line_text.specs.Macros.{Macros}
use Rattle.submit_file.specs.declared.error.SubmitError.TheVariants as error
use Rattle.submit_file.specs.Errors.{Replaced, replaced, refused}
use Rattle.submit_file.proofs.macros.expand_at.Goals as goal

no_memory_bad : {at : ℕ} → macro.Bad at ≡ macro.Memory → ⊥
no_memory_bad e = cc

no_memory_circular : {name : List ℕ} → macro.Circular name ≡ macro.Memory → ⊥
no_memory_circular e = cc

no_memory_long : {length : ℕ} → macro.TooLong length ≡ macro.Memory → ⊥
no_memory_long e = cc

-- a refusal as it was met, in the words of its variant
refused_for : (t : Macros) (text : List ℕ) (n : ℕ) (f g : MacroError) → IsRefused t text f → f ≡ g → (g ≡ macro.Memory → ⊥) → Replaced t text n (Err (error.Macro n g))
refused_for t text n f g fails is other = refused (subst (IsRefused t text) is fails) other

pub returns-in-Ok : goal.returns-in-Ok
returns-in-Ok c = replaced c.in-Ok.ensures.ok

pub returns-in-Err-Bad : goal.returns-in-Err-Bad
returns-in-Err-Bad c = refused_for c.args.table.now c.args.text.now c.args.line c.in-Err-Bad.field-0 (macro.Bad c.in-Err-Bad.at) c.in-Err-Bad.ensures.refused c.in-Err-Bad.field-0-is no_memory_bad

pub returns-in-Err-Circular : goal.returns-in-Err-Circular
returns-in-Err-Circular c = refused_for c.args.table.now c.args.text.now c.args.line c.in-Err-Circular.field-0 (macro.Circular c.in-Err-Circular.name) c.in-Err-Circular.ensures.refused c.in-Err-Circular.field-0-is no_memory_circular

pub returns-in-Err-TooLong : goal.returns-in-Err-TooLong
returns-in-Err-TooLong c = refused_for c.args.table.now c.args.text.now c.args.line c.in-Err-TooLong.field-0 (macro.TooLong c.in-Err-TooLong.length) c.in-Err-TooLong.ensures.refused c.in-Err-TooLong.field-0-is no_memory_long
