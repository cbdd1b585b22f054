use Rattle.matchmaker.proofs.Weights.{weighed_more, within_more, some_more}
use Rattle.matchmaker.proofs.spinning.weights.Goals as goal

pub loop-bidder-preserved : goal.loop-bidder-preserved
loop-bidder-preserved c = record {
  is = weighed_more c.args.bidders.now c.loop-bidder.bidder-index c.loop-bidder.sum c.weight-sum.result c.bidder-item.result c.loop-bidder-test.true c.bidder-item.is c.loop-bidder.invariant.is c.weight-sum.ensures.weight;
  within = within_more c.loop-bidder.bidder-index c.loop-bidder.sum c.weight-sum.result c.loop-bidder.invariant.within c.weight-sum.ensures.within;
  some = some_more c.loop-bidder.bidder-index c.loop-bidder.sum c.weight-sum.result c.loop-bidder.invariant.some c.weight-sum.ensures.some;
}
