use Rattle.std.proofs.Common.{◌<◌, ◌≤◌, map, length}
use Rattle.std.specs.List.{All}
use Rattle.matchmaker.specs.Cycle.{requests_left, last_course}
use Rattle.matchmaker.specs.declared.accountant.TheConstants.{MAX_USERS}
use Rattle.matchmaker.specs.Loops.{bidder_of, course_of}
use Rattle.matchmaker.proofs.Cycles.{SpinsLeft}
use Rattle.matchmaker.proofs.plain.plain_matches.Given as goal

abbrev pub invariant-spins : goal.invariant-spins
invariant-spins g l = record {
  left : SpinsLeft l.snapshot (course_of bidder_of l.bidders.items l.made.items) (last_course l.snapshot (map bidder_of l.fn.bidders.items));
  positive : All (λ b. 0 < b.account.effective) l.bidders.items;
  few : length l.bidders.items ≤ MAX_USERS;
}

-- each spin takes a request
abbrev pub decreases-spins : goal.decreases-spins
decreases-spins g l = requests_left (map bidder_of l.bidders.items)
