use Rattle.std.proofs.Common.{◌∙◌}
use Rattle.std.proofs.lemmas.List.{take_all}
use Rattle.matchmaker.proofs.Openings.{keyed_more, none_keyed}
use Rattle.matchmaker.proofs.opening.all_keyed.Goals as goal

pub loop-request-init : goal.loop-request-init
loop-request-init c = none_keyed c.args.now c.in_ok-list.list.items c.in_ok-list.ensures.items

pub loop-request-preserved : goal.loop-request-preserved
loop-request-preserved c = keyed_more c.args.now c.loop-request.list.items c.push.new.self.items c.args.requests.now c.loop-request.request-index c.request-item.result c.in_ok-one.one
    c.loop-request-test.true c.request-item.is c.loop-request.invariant c.in_ok-one.ensures c.in_ok-push.ensures.items

pub returns-clause-same : goal.returns-clause-same
returns-clause-same c = c.loop-request.invariant.same ∙ take_all c.loop-request.request-index c.args.requests.now c.loop-request-test.false

pub returns-clause-each : goal.returns-clause-each
returns-clause-each c = c.loop-request.invariant.each
