use Rattle.std.proofs.Common.{arith}
use Rattle.line_text.proofs.Pieces.{total-push}
use Rattle.line_text.proofs.written.Written.push.Goals as goal

pub invariant_of-self-2 : goal.invariant_of-self-2
invariant_of-self-2 c =
    (omega (arith, total-push c.self.inside.pieces.items c.push.new.self.items c.args.text c.in_ok-push.ensures.items, c.self.invariant.0), omega arith)

pub returns-clause-fits : goal.returns-clause-fits
returns-clause-fits c =
    omega (arith, total-push c.self.inside.pieces.items c.push.new.self.items c.args.text c.in_ok-push.ensures.items, c.self.invariant.0)
