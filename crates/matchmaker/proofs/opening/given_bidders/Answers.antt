use Rattle.std.proofs.Common.{subst, List, map}
use Rattle.std.specs.List.{AllZip}
use Rattle.std.proofs.lemmas.List.{take_all}
use Rattle.matchmaker.specs.declared.snapshot.Submitter.{Submitter}
use Rattle.matchmaker.specs.Loops.{bidder_of}
use Rattle.matchmaker.specs.Opening.{IsBidderOf}
use Rattle.matchmaker.proofs.Openings.{bidders_more}
use Rattle.matchmaker.proofs.opening.given_bidders.Goals as goal

pub loop-submitter-preserved : goal.loop-submitter-preserved
loop-submitter-preserved c = bidders_more c.args.now c.args.submitters.now c.loop-submitter.bidders.items c.push.new.self.items c.loop-submitter.submitter-index c.submitter-item.result c.in_ok-one.one
    c.loop-submitter-test.true c.submitter-item.is c.loop-submitter.invariant c.in_ok-one.ensures c.in_ok-push.ensures.items

pub returns : goal.returns
returns c = subst (λ (bs : List Submitter). AllZip (IsBidderOf c.args.now) bs (map bidder_of c.loop-submitter.bidders.items))
    (take_all c.loop-submitter.submitter-index c.args.submitters.now c.loop-submitter-test.false) c.loop-submitter.invariant
