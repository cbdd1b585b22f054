use Rattle.std.proofs.Common.{arith}
use Rattle.line_text.proofs.Pieces.{nil_of_length}
use Rattle.line_text.proofs.expansion.Expansion.run.Goals as goal

pub returns-clause-ended : goal.returns-clause-ended
returns-clause-ended c =
    let left = c.pop.new.self in
    nil_of_length left.items (omega (arith, c.in_default.ensures.cases.1, left.ok.0))
