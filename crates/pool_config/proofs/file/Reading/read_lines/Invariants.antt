-- What comes of the lines that are left comes of all.
use Rattle.std.proofs.Common.{List, ◌++◌, drop}
use Rattle.line_text.specs.declared.logical.Line.{Line}
use Rattle.pool_config.specs.Lines.{ReadResult, Reads}
use Rattle.pool_config.specs.LinesSoFar.{lines_so_far}
use Rattle.pool_config.proofs.file.Reading.read_lines.Given as goal

abbrev pub invariant-loop-line : goal.invariant-loop-line
invariant-loop-line l =
    (rest : List Line) (q : ReadResult) → Reads (drop l.line-index l.lines ++ rest) (lines_so_far l.self) q → Reads (l.lines ++ rest) (lines_so_far l.initial.self) q
