-- The parts of the lines so far.
use Rattle.std.proofs.Common.{◌≡◌, ◌++◌, map, take}
use Rattle.line_text.specs.Macros.{Macros}
use Rattle.submit_file.specs.Origins.{own_line}
use Rattle.submit_file.specs.Plans.{origins_of, Spares, ArePartsFor}
use Rattle.submit_file.proofs.statement.Statement.add_lines.Given as goal

abbrev pub invariant-loop-setting : goal.invariant-loop-setting
invariant-loop-setting l = record {
  sources : origins_of l.parts.items ≡ origins_of l.initial.parts.items ++ map (λ s. own_line s) (take l.setting-index l.settings);
  parts : (t : Macros) → Spares l.table t → ArePartsFor l.self t l.initial.parts.items → ArePartsFor l.self t l.parts.items;
}
