use Rattle.std.proofs.Common.{◌<◌, length, arith}
use Rattle.line_text.proofs.Pieces.{more_joined}
use Rattle.line_text.proofs.written.join.Goals as goal

pub loop-piece-preserved : goal.loop-piece-preserved
loop-piece-preserved c =
    let less : c.loop-piece.piece-index < length c.args.pieces.now = omega arith in
    rw (c.in_ok-push_str.ensures.bytes, c.loop-piece.invariant, more_joined)
