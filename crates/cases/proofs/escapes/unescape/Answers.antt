use Rattle.std.proofs.Common.{arith}
use Rattle.cases.proofs.escapes.unescape.Goals as goal

pub loop-rest-smaller : goal.loop-rest-smaller
loop-rest-smaller c = omega arith
