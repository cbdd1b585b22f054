-- The parts of the commands so far.
use Rattle.std.proofs.Common.{◌≡◌, ◌++◌, map, take}
use Rattle.line_text.specs.Macros.{Macros}
use Rattle.submit_file.specs.Origins.{other_command}
use Rattle.submit_file.specs.Plans.{origins_of, Spares, ArePartsFor}
use Rattle.submit_file.proofs.statement.Statement.add_commands.Given as goal

abbrev pub invariant-loop-command : goal.invariant-loop-command
invariant-loop-command l = record {
  sources : origins_of l.parts.items ≡ origins_of l.initial.parts.items ++ map (λ c. other_command c) (take l.command-index l.commands);
  parts : (t : Macros) → Spares l.table t → ArePartsFor l.self t l.initial.parts.items → ArePartsFor l.self t l.parts.items;
}
