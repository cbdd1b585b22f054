use Rattle.startd_core.proofs.Telling.{concluded_part, ticked_part, booted_part}
use Rattle.startd_core.proofs.laws.offers_and_updates_are_no_moves.Goals as goal

pub returns-clause-reactions : goal.returns-clause-reactions
returns-clause-reactions c = concluded_part

pub returns-clause-ticks : goal.returns-clause-ticks
returns-clause-ticks c = ticked_part

pub returns-clause-boots : goal.returns-clause-boots
returns-clause-boots c = booted_part
