use Rattle.std.proofs.Common.{◌∙◌, ap, map}
use Rattle.matchmaker.specs.declared.course.Made.{Made}
use Rattle.matchmaker.specs.Loops.{bidder_of}
use Rattle.matchmaker.proofs.plain.plain_cycle.Goals as goal

pub plain_matches-requires-clause-positive : goal.plain_matches-requires-clause-positive
plain_matches-requires-clause-positive g c = c.in_ok-bidders.ensures.positive c.requires.priorities

pub returns : goal.returns
returns g c = record {
  made = c.in_ok-made.made.items;
  cycle = record { bidders = map bidder_of c.in_ok-bidders.bidders.items; opening = c.in_ok-bidders.ensures.opening; gives = c.in_ok-made.ensures };
  are = c.from_vec.ensures ∙ (c.in_ok-matches_of.ensures ∙ ap (map (λ (m : Made). m.matched)) c.deref.ensures.value);
}
