use Rattle.std.proofs.Common.{◌≡◌, ◌*◌, ◌^◌, ◌≤◌, take}
use Rattle.std.specs.List.{sum_by}
use Rattle.matchmaker.specs.Cycle.{weight}
use Rattle.matchmaker.proofs.spinning.weights.Given as goal

abbrev pub invariant-loop-bidder : goal.invariant-loop-bidder
invariant-loop-bidder l = record {
  is : l.sum ≡ sum_by (λ b. weight b.account) (take l.bidder-index l.bidders);
  within : l.sum ≤ l.bidder-index * 2 ^ 96;
  some : l.bidder-index ≤ l.sum;
}
