use Rattle.std.proofs.Common.{map, take}
use Rattle.std.specs.List.{AllZip}
use Rattle.matchmaker.specs.Loops.{bidder_of}
use Rattle.matchmaker.specs.Opening.{IsBidderOf}
use Rattle.matchmaker.proofs.opening.given_bidders.Given as goal

abbrev pub invariant-loop-submitter : goal.invariant-loop-submitter
invariant-loop-submitter l = AllZip (IsBidderOf l.now) (take l.submitter-index l.submitters) (map bidder_of l.bidders.items)
