use Rattle.std.proofs.Common.{◌≡◌, length}
use Rattle.negotiate.proofs.Numbering.{PartiesSoFar}
use Rattle.negotiate.proofs.quick.parties_of.Given as goal

abbrev pub invariant-loop-bidder : goal.invariant-loop-bidder
invariant-loop-bidder l = record {
  parties : PartiesSoFar l.fn.clusters.slots l.fn.bidders.items l.bidders.items l.parties.items;
  slots : l.clusters.slots ≡ l.fn.clusters.slots;
}

abbrev pub decreases-loop-bidder : goal.decreases-loop-bidder
decreases-loop-bidder l = length l.bidders.items
