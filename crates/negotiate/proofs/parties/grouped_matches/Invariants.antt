use Rattle.std.proofs.Common.{◌<◌, ◌≤◌, map, length}
use Rattle.matchmaker.specs.declared.accountant.TheConstants.{MAX_USERS}
use Rattle.std.specs.List.{All}
use Rattle.matchmaker.specs.Cycle.{requests_left, last_course}
use Rattle.matchmaker.specs.Loops.{course_of}
use Rattle.negotiate.specs.Parties.{bidder_of, HasTables, CostsAll}
use Rattle.matchmaker.proofs.Cycles.{SpinsLeft}
use Rattle.negotiate.proofs.parties.grouped_matches.Given as goal

abbrev pub invariant-spins : goal.invariant-spins
invariant-spins g l = record {
  left : SpinsLeft l.snapshot (course_of bidder_of l.parties.items l.made.items) (last_course l.snapshot (map bidder_of l.fn.parties.items));
  positive : All (λ b. 0 < b.account.effective) l.parties.items;
  few : length l.parties.items ≤ MAX_USERS;
  tables : All (HasTables l.snapshot l.made.items) l.parties.items;
  cost : CostsAll (length l.snapshot.slots) l.fn.parties.items l.parties.items l.fn.steps l.steps;
}

-- each spin takes a request
abbrev pub decreases-spins : goal.decreases-spins
decreases-spins g l = requests_left (map bidder_of l.parties.items)
