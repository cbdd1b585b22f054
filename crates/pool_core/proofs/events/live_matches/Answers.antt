use Rattle.std.proofs.Common.{drop}
use Rattle.pool_core.proofs.LiveOnes.{all_at_end, all_judged, one_more_at}
use Rattle.pool_core.proofs.events.live_matches.Goals as goal

pub returns-in_default : goal.returns-in_default
returns-in_default c =
    all_judged c.args.state.now c.args.reading c.args.list.now c.args.judged.now (drop c.loop-found.found-index c.args.list.now) c.loop-found.left.now c.loop-found.live c.in_default.ensures.cases c.loop-found.invariant

pub loop-found-preserved : goal.loop-found-preserved
loop-found-preserved c =
    one_more_at c.args.state.now c.args.reading c.args.list.now c.args.judged.now c.loop-found.found-index _ c.loop-found.left.now c.in-Some.first.now c.in-Some.rest.now c.loop-found.live c.push_live.new.live c.loop-found-test.true c.in-Some.ensures.cases.0
    c.in_ok-push_live.ensures c.loop-found.invariant

pub returns : goal.returns
returns c =
    all_at_end c.args.state.now c.args.reading c.args.list.now c.args.judged.now c.loop-found.found-index c.loop-found.left.now c.loop-found.live c.loop-found-test.false c.loop-found.invariant
