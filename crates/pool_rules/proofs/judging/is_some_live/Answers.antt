use Rattle.pool_rules.proofs.Judged.{first_live, later_live, none_was_live}
use Rattle.pool_rules.proofs.LiveMatches.{none_live, none_of_length}
use Rattle.pool_rules.proofs.judging.is_some_live.Goals as goal

pub returns-in-None : goal.returns-in-None
returns-in-None c =
    let none = none_of_length c.loop-found.left.now c.in-None.ensures.cases in
    (λ h. cc, λ live. absurd (none_live c.args.state.now c.args.list.now _ c.args.judged.now c.loop-found.left.now c.args.reading none c.loop-found.invariant live))

pub returns-then-is_live : goal.returns-then-is_live
returns-then-is_live c =
    first_live c.args.state.now c.args.list.now c.loop-found.found-index _ c.loop-found.left.now c.in-Some.first.now c.in-Some.rest.now c.args.reading c.loop-found.invariant c.loop-found-test.true
    c.in-Some.ensures.cases.0 (c.is_live.ensures.0 c.if-is_live.true)

pub loop-found-preserved : goal.loop-found-preserved
loop-found-preserved c =
    later_live c.args.state.now c.args.list.now c.loop-found.found-index _ c.loop-found.left.now c.in-Some.first.now c.in-Some.rest.now c.args.reading c.loop-found.invariant c.loop-found-test.true
    c.in-Some.ensures.cases.0 c.if-is_live.false c.is_live.ensures

pub returns : goal.returns
returns c = none_was_live c.args.state.now c.args.list.now c.loop-found.found-index c.loop-found.left.now c.args.reading c.loop-found.invariant c.loop-found-test.false
