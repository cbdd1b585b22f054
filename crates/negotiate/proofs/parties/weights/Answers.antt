use Rattle.matchmaker.proofs.Weights.{within_more, some_more}
use Rattle.negotiate.proofs.Playing.{weighed_more}
use Rattle.negotiate.proofs.parties.weights.Goals as goal

pub loop-party-preserved : goal.loop-party-preserved
loop-party-preserved c = record {
  is = weighed_more c.args.parties.now c.loop-party.party-index c.loop-party.sum c.weight-sum.result c.party-item.result c.loop-party-test.true c.party-item.is c.loop-party.invariant.is c.weight-sum.ensures.weight;
  within = within_more c.loop-party.party-index c.loop-party.sum c.weight-sum.result c.loop-party.invariant.within c.weight-sum.ensures.within;
  some = some_more c.loop-party.party-index c.loop-party.sum c.weight-sum.result c.loop-party.invariant.some c.weight-sum.ensures.some;
}
