use Rattle.matchmaker.proofs.Openings.{bidder_is}
use Rattle.matchmaker.proofs.opening.bidder_of.Goals as goal

pub returns : goal.returns
returns c = bidder_is c.args.now c.args.submitter.now c.in_ok-of.field-0 c.as_slice.result.now c.in_ok-ordered_requests.field-0.items
    c.in_ok-of.ensures c.as_slice.ensures c.in_ok-ordered_requests.ensures.same c.in_ok-ordered_requests.ensures.sorted
