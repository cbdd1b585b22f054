use Rattle.std.proofs.Common.{◌≡◌, ◌<◌, length, slice_get, Some, arith}
use Rattle.line_text.specs.Above.{between}
use Rattle.line_text.proofs.Pieces.{piece_read, again_more, again_above}
use Rattle.line_text.proofs.written.Written.add_again.Goals as goal

pub loop-k-preserved : goal.loop-k-preserved
loop-k-preserved c =
    let old = c.args.self.now in
    let k = c.loop-k.k in
    let less : k < length old = omega arith in
    let at : slice_get old k ≡ Some c.index-piece.result.now.now = piece_read c.self-in-loop-k.inside.pieces.items c.loop-k.self old (between c.args.from k old) k c.index-piece.result.now c.self-in-loop-k.view_is c.loop-k.invariant less c.index-piece.ensures in
    again_more c.loop-k.self old c.push.new.self c.args.from k _ c.loop-k.invariant c.in-Ok.ensures.ok (omega arith) at

pub returns-in-Err-clause-err : goal.returns-in-Err-clause-err
returns-in-Err-clause-err c =
    let old = c.args.self.now in
    let k = c.loop-k.k in
    let less : k < length old = omega arith in
    let at : slice_get old k ≡ Some c.index-piece.result.now.now = piece_read c.self-in-loop-k.inside.pieces.items c.loop-k.self old (between c.args.from k old) k c.index-piece.result.now c.self-in-loop-k.view_is c.loop-k.invariant less c.index-piece.ensures in
    again_above c.loop-k.self old c.args.from k c.args.to _ c.in-Err.error c.loop-k.invariant c.in-Err.ensures.within (omega arith) (omega arith) at c.in-Err.ensures.err
