-- The matches of a cycle in which each request looks at every slot.
use Rattle.std.specs.Prelude.{◌≡◌, List, map}
use Rattle.pool_mail.specs.declared.matching.Match.{Match}
use Rattle.matchmaker.specs.declared.snapshot.Snapshot.{Snapshot}
use Rattle.matchmaker.specs.declared.course.Made.{Made}
use Rattle.matchmaker.specs.Cycle.{Bidder, cycle_of}
use Rattle.matchmaker.specs.Opening.{IsOpening}

-- the matches, in the order in which they are made, with whom and what they are made of
pub record IsCycle (s : Snapshot) (made : List Made) : Type 0 where
  pub bidders : List Bidder
  pub opening : IsOpening s bidders
  pub gives : made ≡ cycle_of s bidders

pub record PlainCycle (s : Snapshot) (matches : List Match) : Type 0 where
  pub made : List Made
  pub cycle : IsCycle s made
  pub are : matches ≡ map (λ m. m.matched) made
