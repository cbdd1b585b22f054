use Rattle.std.proofs.Common.{◌≡◌, take, drop, map}
use Rattle.matchmaker.specs.Cycle.{turns, share}
use Rattle.matchmaker.specs.Loops.{bidder_of, after_those}
use Rattle.matchmaker.proofs.spinning.spin.Given as goal

abbrev pub invariant-loop-bidder : goal.invariant-loop-bidder
invariant-loop-bidder g l = record {
  rest : after_those (map bidder_of (take l.bidder-index l.bidders)) (turns l.snapshot (share l.total l.weights) l.least (map bidder_of (drop l.bidder-index l.bidders)) l.made.items)
      ≡ turns l.snapshot (share l.total l.weights) 1 (map bidder_of l.fn.bidders) l.fn.made.items;
  same : map (λ b. b.account) l.bidders ≡ map (λ b. b.account) l.fn.bidders;
}
