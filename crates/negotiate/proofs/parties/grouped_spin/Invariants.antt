use Rattle.std.proofs.Common.{◌≡◌, take, drop, map, length}
use Rattle.std.specs.List.{All}
use Rattle.matchmaker.specs.Cycle.{turns, share}
use Rattle.matchmaker.specs.Loops.{after_those}
use Rattle.negotiate.specs.Parties.{bidder_of, HasTables, CostsAll}
use Rattle.negotiate.proofs.parties.grouped_spin.Given as goal

abbrev pub invariant-loop-party : goal.invariant-loop-party
invariant-loop-party g l = record {
  rest : after_those (map bidder_of (take l.party-index l.parties)) (turns l.snapshot (share l.total l.weights) l.least (map bidder_of (drop l.party-index l.parties)) l.made.items)
      ≡ turns l.snapshot (share l.total l.weights) 1 (map bidder_of l.fn.parties) l.fn.made.items;
  same : map (λ b. b.account) l.parties ≡ map (λ b. b.account) l.fn.parties;
  tables : All (HasTables l.snapshot l.made.items) l.parties;
  cost : CostsAll (length l.snapshot.slots) l.fn.parties l.parties l.fn.steps l.steps;
}
