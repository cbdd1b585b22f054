-- What was copied and what is left are the whole table.
use Rattle.std.proofs.Common.{◌≡◌, ◌++◌}
use Rattle.line_text.specs.Macros.{macros_of}
use Rattle.line_text.proofs.table.MacroTableCopied.copy.Given as goal

abbrev pub invariant-loop-name : goal.invariant-loop-name
invariant-loop-name l = macros_of l.entries.entries ++ macros_of l.name-iterator ≡ l.self
