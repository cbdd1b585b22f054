-- What is wrong with a text, and with the case whose field it is.
use Rattle.std.specs.Prelude.{◌≡◌, ℕ}
use Rattle.cases.specs.declared.error.CaseError.{CaseError}
use Rattle.cases.specs.declared.error.CaseError.TheVariants as of_case
use Rattle.daemon_texts.specs.declared.error.TextError.{TextError}
use Rattle.daemon_texts.specs.declared.error.TextError.TheVariants.{Form, Memory}

abbrev pub fault_at : ℕ → TextError → CaseError
fault_at line Form = of_case.Form line
fault_at line Memory = of_case.Memory

abbrev pub IsForm : TextError → Type 0
IsForm e = e ≡ Form
