use Rattle.matchmaker.proofs.Openings.{requests_sorted, requests_permuted}
use Rattle.matchmaker.proofs.opening.ordered_requests.Goals as goal

pub returns-clause-same : goal.returns-clause-same
returns-clause-same c = requests_permuted c.args.requests.now c.in_ok-left.left.items c.in_ok-list.list.items c.sort_keyed.new.list.items
    c.in_ok-list.ensures.same c.sort_keyed.ensures.same c.in_ok-left.ensures

pub returns-clause-sorted : goal.returns-clause-sorted
returns-clause-sorted c = requests_sorted c.args.now c.in_ok-list.list.items c.sort_keyed.new.list.items c.in_ok-left.left.items
    c.in_ok-list.ensures.each c.sort_keyed.ensures.same c.in_ok-sort_keyed.ensures.sorted c.in_ok-left.ensures
