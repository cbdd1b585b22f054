-- What was written, and the pieces so far again.
use Rattle.std.proofs.Common.{◌≡◌, ◌++◌}
use Rattle.line_text.specs.Above.{between}
use Rattle.line_text.proofs.written.Written.add_again.Given as goal

abbrev pub invariant-loop-k : goal.invariant-loop-k
invariant-loop-k l = l.self ≡ l.fn.self ++ between l.from l.k l.fn.self
