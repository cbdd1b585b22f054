-- What is listed, with what the lines that are left give, is the whole.
use Rattle.std.proofs.Common.{◌≡◌, ℕ, List, ◌++◌, string_bytes}
use Rattle.std.specs.Str.Iter.{lines_steps}
use Rattle.std.proofs.lemmas.Iterator.{YieldsList}
use Rattle.line_text.specs.Lines.{logical_lines, logical_from}
use Rattle.line_text.proofs.logical.lines.Given as goal

abbrev pub invariant-loop-line : goal.invariant-loop-line
invariant-loop-line l =
    (more : List (List ℕ)) × YieldsList lines_steps (λ x. x.now) l.line-iterator more × (logical_lines l.text ≡ l.list ++ logical_from l.first l.number (string_bytes l.joined) more)
