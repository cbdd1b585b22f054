use Rattle.negotiate.proofs.Playing.{none_plays, plays_below}
use Rattle.negotiate.proofs.parties.takes_part.Goals as goal

pub returns-else-not-is_empty : goal.returns-else-not-is_empty
returns-else-not-is_empty c = none_plays c.args.made.now c.args.party.now c.is_empty.result c.is_empty.ensures c.if-not-is_empty.false

pub returns-then-not-is_empty : goal.returns-then-not-is_empty
returns-then-not-is_empty c = plays_below c.args.made.now c.args.party.now c.is_empty.result c.is_empty.ensures c.is_below_ceiling.result c.if-not-is_empty.true c.is_below_ceiling.ensures
