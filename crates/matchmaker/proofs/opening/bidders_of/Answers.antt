use Rattle.std.proofs.Common.{subst, List, map}
use Rattle.std.specs.List.{AllZip}
use Rattle.matchmaker.specs.declared.snapshot.Submitter.{Submitter}
use Rattle.matchmaker.specs.Loops.{bidder_of}
use Rattle.matchmaker.specs.Opening.{IsBidderOf}
use Rattle.matchmaker.proofs.Openings.{opened, all_positive, as_many}
use Rattle.matchmaker.proofs.opening.bidders_of.Goals as goal

pub returns-clause-opening : goal.returns-clause-opening
returns-clause-opening c =
    let each = subst (λ (bs : List Submitter). AllZip (IsBidderOf c.args.snapshot.now.now) bs (map bidder_of c.in_ok-bidders.bidders.items)) c.as_slice-submitters.ensures c.in_ok-bidders.ensures in
    opened c.args.snapshot.now c.in_ok-bidders.bidders.items c.sort_bidders.new.bidders.items each c.sort_bidders.ensures.same c.in_ok-sort_bidders.ensures.sorted

pub returns-clause-positive : goal.returns-clause-positive
returns-clause-positive c = λ all.
    let each = subst (λ (bs : List Submitter). AllZip (IsBidderOf c.args.snapshot.now.now) bs (map bidder_of c.in_ok-bidders.bidders.items)) c.as_slice-submitters.ensures c.in_ok-bidders.ensures in
    all_positive c.args.snapshot.now.now c.args.snapshot.now.submitters c.in_ok-bidders.bidders.items c.sort_bidders.new.bidders.items each c.sort_bidders.ensures.same all

pub returns-clause-as_many : goal.returns-clause-as_many
returns-clause-as_many c =
    let each = subst (λ (bs : List Submitter). AllZip (IsBidderOf c.args.snapshot.now.now) bs (map bidder_of c.in_ok-bidders.bidders.items)) c.as_slice-submitters.ensures c.in_ok-bidders.ensures in
    as_many c.args.snapshot.now.now c.args.snapshot.now.submitters c.in_ok-bidders.bidders.items c.sort_bidders.new.bidders.items each c.sort_bidders.ensures.same
