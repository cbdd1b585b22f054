use Rattle.std.proofs.Common.{◌≡◌, ◌*◌, ◌^◌, ◌≤◌, take}
use Rattle.std.specs.List.{sum_by}
use Rattle.matchmaker.specs.Cycle.{weight}
use Rattle.negotiate.proofs.parties.weights.Given as goal

abbrev pub invariant-loop-party : goal.invariant-loop-party
invariant-loop-party l = record { is : l.sum ≡ sum_by (λ b. weight b.account) (take l.party-index l.parties); within : l.sum ≤ l.party-index * 2 ^ 96; some : l.party-index ≤ l.sum }
