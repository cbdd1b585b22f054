use Rattle.std.proofs.Common.{◌≡◌, ◌∙◌, [], sym}
use Rattle.std.proofs.lemmas.List.{nil_from_length}
use Rattle.negotiate.proofs.Members.{one_fewer}
use Rattle.negotiate.proofs.Numbering.{numbering_begin, numbering_more, numbering_all}
use Rattle.negotiate.proofs.quick.all_clustered.Goals as goal

pub loop-request-init : goal.loop-request-init
loop-request-init c = numbering_begin c.args.requests.items c.new-left.result.items c.args.clusters.now c.requires c.new-left.ensures.items

pub loop-request-preserved : goal.loop-request-preserved
loop-request-preserved c =
    numbering_more c.args.clusters.now.slots c.args.requests.items c.loop-request.requests.items c.pop_front.new.self.items c.loop-request.left.items c.push_back.new.self.items c.loop-request.clusters c.clustered.new.clusters
    c.in-Some.request c.in_ok-one.one c.loop-request.invariant c.in-Some.ensures.items c.in_ok-one.ensures.request c.in_ok-one.ensures.number c.in_ok-one.ensures.apart c.in_ok-push_back.ensures.items

pub returns-clause-same : goal.returns-clause-same
returns-clause-same c =
    let empty : c.loop-request.requests.items ≡ [] = nil_from_length c.loop-request.requests.items (sym c.loop-request.requests.ok.0 ∙ c.in_default.ensures.cases.0) in
    numbering_all c.args.clusters.now.slots c.args.requests.items c.loop-request.requests.items c.loop-request.left.items c.loop-request.clusters c.loop-request.invariant empty

pub returns-clause-clustered : goal.returns-clause-clustered
returns-clause-clustered c = c.loop-request.invariant.clustered

pub loop-request-smaller : goal.loop-request-smaller
loop-request-smaller c = one_fewer c.loop-request.requests.items c.pop_front.new.self.items c.in-Some.request c.in-Some.ensures.items
