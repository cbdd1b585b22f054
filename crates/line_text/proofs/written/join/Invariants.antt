-- The pieces so far, as one text.
use Rattle.std.proofs.Common.{◌≡◌, take, string_bytes}
use Rattle.line_text.specs.Expansion.{joined}
use Rattle.line_text.specs.Above.{texts}
use Rattle.line_text.proofs.written.join.Given as goal

abbrev pub invariant-loop-piece : goal.invariant-loop-piece
invariant-loop-piece l = string_bytes l.text ≡ joined (texts (take l.piece-index l.pieces))
