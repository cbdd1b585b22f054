use Rattle.std.proofs.Common.{arith}
use Rattle.pool_steps.proofs.Posting.{match_more}
use Rattle.pool_steps.proofs.master.put_matches.Goals as goal

pub loop-place-preserved : goal.loop-place-preserved
loop-place-preserved c =
    let room = c.loop-place.invariant.1 in
    let spare = c.put_match_at.ensures.spare in
    (match_more c.args.list.now c.loop-place.place c.loop-place.mails c.put_match_at.new.mails c.args.mails.now c.loop-place.invariant.0 c.put_match_at.ensures.sent, omega arith)
