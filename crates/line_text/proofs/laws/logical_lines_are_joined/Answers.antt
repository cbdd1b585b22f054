use Rattle.std.specs.Str.Lines.{lines}
use Rattle.line_text.proofs.LawLemmas.{made_from}
use Rattle.line_text.proofs.laws.logical_lines_are_joined.Goals as goal

pub returns : goal.returns
returns c = λ text. made_from (lines text)
